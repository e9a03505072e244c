-- Words by their first place, up to a limit and with one of them in front.
use Rattle.std.proofs.Common.{◌≡◌, ℕ, zero, suc, ◌+◌, ◌<◌, ◌≤◌, Bool, true, false, List, [], ◌∷◌, ◌++◌, length, take, drop, Option, Some, None, refl, ap, sym, subst, ◌∙◌, append_assoc, length-append, arith}
use Rattle.std.proofs.lemmas.List.{append-nil}
use Rattle.std.proofs.lemmas.Bool.Decides.{nat_tests}
use Rattle.std.proofs.lemmas.Slice.Eq.{bytes_eq-Decides}
use Rattle.std.specs.Prelude.{is_some, IsSome, nat_lt, slice_get}
use Rattle.std.specs.List.{list_all}
use Rattle.std.specs.Str.{bytes_eq}
use Rattle.tv_program.specs.Words.{Word, number_of, words_with, with_new}
use Rattle.tv_language.specs.Symbols.{by_first_place}
use Rattle.tv_language.proofs.PlaceOfWords.{shifted, here_or, number_first, or_last, number_more}
use Rattle.tv_language.proofs.PlaceLemmas.{leads, leader-number}
use Rattle.tv_reader.specs.ProgramMarks.{moved_in_front, led_by}
use Rattle.std.proofs.lemmas.Bool.{and_from, and_parts}

-- whether the word has a number among these
abbrev pub has : List Word → Word → Bool
has ws w = is_some (number_of w ws)

abbrev pub has_all : List Word → List Word → Bool
has_all ws us = list_all (has ws) us

has_last : (o : Option ℕ) (l : ℕ) → is_some (or_last o true l) ≡ true
has_last (Some n) l = refl
has_last None l = refl

has_first : (o : Option ℕ) (b : Bool) (l : ℕ) → is_some o ≡ true → is_some (or_last o b l) ≡ true
has_first (Some n) b l h = refl
has_first None b l h = absurd cc

-- the word that is added is there, and so are those before
pub has_new : (ws : List Word) (w : Word) → has (words_with w ws) w ≡ true
has_new ws w = by (number_of w ws) refl
  where
    by : (o : Option ℕ) → number_of w ws ≡ o → is_some (number_of w (with_new o w ws)) ≡ true
    by (Some n) e = rw e refl
    by None e = ap is_some (number_more w w ws) ∙ ap (λ (b : Bool). is_some (or_last (number_of w ws) b (length ws))) ((bytes_eq-Decides w w).1 refl) ∙ has_last (number_of w ws) (length ws)

pub has_more : (ws : List Word) (u w : Word) → has ws w ≡ true → has (words_with u ws) w ≡ true
has_more ws u w h = by (number_of u ws)
  where
    by : (o : Option ℕ) → is_some (number_of w (with_new o u ws)) ≡ true
    by (Some n) = h
    by None = ap is_some (number_more w u ws) ∙ has_first (number_of w ws) (bytes_eq w u) (length ws) h

pub has_placed : (known ws : List Word) (w : Word) → has known w ≡ true → has (by_first_place known ws) w ≡ true
has_placed known [] w h = h
has_placed known (u ∷ ws) w h = has_placed (words_with u known) ws w (has_more known u w h)

-- all words of a list have a number among them by their first place
pub has_each : (known ws : List Word) → has_all (by_first_place known ws) ws ≡ true
has_each known [] = refl
has_each known (w ∷ ws) = and_from _ _ (has_placed (words_with w known) ws w (has_new known w)) (has_each (words_with w known) ws)

-- ---- no word is placed that is not known or among the others

has_of : (o : Option ℕ) (b : Bool) (l : ℕ) → is_some (or_last o b l) ≡ true → b ≡ false → is_some o ≡ true
has_of (Some n) b l h e = refl
has_of None true l h e = absurd cc
has_of None false l h e = absurd cc

-- where the one list has all words of the others, it has each word that is placed
pub placed_among : (all known ws : List Word) (w : Word) → ((u : Word) → has known u ≡ true → has all u ≡ true) → has_all all ws ≡ true → has (by_first_place known ws) w ≡ true → has all w ≡ true
placed_among all known [] w h i j = h w j
placed_among all known (v ∷ ws) w h i j = placed_among all (words_with v known) ws w (λ u e. by u (number_of v known) e) ((and_parts _ _ i).1) j
  where
    last : (u : Word) (b : Bool) → bytes_eq u v ≡ b → is_some (or_last (number_of u known) b (length known)) ≡ true → has all u ≡ true
    last u true same e = subst (λ (x : Word). has all x ≡ true) (sym ((bytes_eq-Decides u v).0 same)) ((and_parts _ _ i).0)
    last u false same e = h u (has_of (number_of u known) false (length known) e refl)

    by : (u : Word) (o : Option ℕ) → is_some (number_of u (with_new o v known)) ≡ true → has all u ≡ true
    by u (Some n) e = h u e
    by u None e = last u (bytes_eq u v) refl (sym (ap is_some (number_more u v known)) ∙ e)

-- ---- what is placed begins with what is known

pub begins : (known ws : List Word) → (more : List Word) × (by_first_place known ws ≡ known ++ more)
begins known [] = ([], sym (append-nil known))
begins known (w ∷ ws) = by (number_of w known) (λ names. begins names ws)
  where
    by : (o : Option ℕ) → ((names : List Word) → (more : List Word) × (by_first_place names ws ≡ names ++ more)) → (more : List Word) × (by_first_place (with_new o w known) ws ≡ known ++ more)
    by (Some n) again = again known
    by None again = let b = again (known ++ w ∷ []) in (w ∷ b.0, b.1 ∙ append_assoc known (w ∷ []) b.0)

take_front : (known more : List Word) → take (length known) (known ++ more) ≡ known
take_front [] more = refl
take_front (w ∷ known) more = ap (λ (ws : List Word). w ∷ ws) (take_front known more)

pub take_known : (known ws : List Word) (most : ℕ) → length known ≡ most → take most (by_first_place known ws) ≡ known
take_known known ws most e = let b = begins known ws in ap (λ (n : ℕ). take n (by_first_place known ws)) (sym e) ∙ ap (take (length known)) b.1 ∙ take_front known b.0

pub take_all : (ws : List Word) (most : ℕ) → length ws ≤ most → take most ws ≡ ws
take_all [] zero h = refl
take_all [] (suc n) h = refl
take_all (w ∷ ws) zero h = absurd (omega arith)
take_all (w ∷ ws) (suc n) h = ap (λ (us : List Word). w ∷ us) (take_all ws n (omega arith))

-- Where each word has a number among the first ones, these are all.
pub all_first : (most : ℕ) (known ws : List Word) → length known ≤ most → has_all (take most (by_first_place known ws)) ws ≡ true → take most (by_first_place known ws) ≡ by_first_place known ws
all_first most known [] bounded h = take_all known most bounded
all_first most known (w ∷ ws) bounded h = by (number_of w known) refl ((and_parts _ _ h).0) ((and_parts _ _ h).1) (λ names l i. all_first most names ws l i)
  where
    full : (b : Bool) → nat_lt (length known) most ≡ b → number_of w known ≡ None → has (take most (by_first_place (known ++ w ∷ []) ws)) w ≡ true → has_all (take most (by_first_place (known ++ w ∷ []) ws)) ws ≡ true → ((names : List Word) → length names ≤ most → has_all (take most (by_first_place names ws)) ws ≡ true → take most (by_first_place names ws) ≡ by_first_place names ws) → take most (by_first_place (known ++ w ∷ []) ws) ≡ by_first_place (known ++ w ∷ []) ws
    full true lt e one rest again = let l : length known < most = grind (arith, nat_tests) in again (known ++ w ∷ []) (omega (arith, l, length-append known (w ∷ []))) rest
    full false lt e one rest again =
        let l : most ≤ length known = grind (arith, nat_tests) in
        let same : length known ≡ most = omega (arith, l, bounded) in
        let b = begins known ws in
        let c = begins (known ++ w ∷ []) ws in
        let cut : take most (by_first_place (known ++ w ∷ []) ws) ≡ known = ap (λ (n : ℕ). take n (by_first_place (known ++ w ∷ []) ws)) (sym same) ∙ ap (take (length known)) (c.1 ∙ append_assoc known (w ∷ []) c.0) ∙ take_front known (w ∷ c.0) in
        let no : is_some (number_of w known) ≡ true = sym (ap (λ (us : List Word). has us w) cut) ∙ one in
        let none : is_some (number_of w known) ≡ false = ap is_some e in
        absurd cc

    by : (o : Option ℕ) → number_of w known ≡ o → has (take most (by_first_place (with_new o w known) ws)) w ≡ true → has_all (take most (by_first_place (with_new o w known) ws)) ws ≡ true → ((names : List Word) → length names ≤ most → has_all (take most (by_first_place names ws)) ws ≡ true → take most (by_first_place names ws) ≡ by_first_place names ws) → take most (by_first_place (with_new o w known) ws) ≡ by_first_place (with_new o w known) ws
    by (Some n) e one rest again = again known bounded rest
    by None e one rest again = full (nat_lt (length known) most) refl e one rest again

-- ---- placed again

-- a word of a list all of whose words are among others
pub among : (all us : List Word) (u : Word) → has us u ≡ true → has_all all us ≡ true → has all u ≡ true
among all [] u h i = absurd cc
among all (x ∷ us) u h i = by (bytes_eq u x) refl (sym (ap is_some (number_first u x us)) ∙ h) (λ j. among all us u j ((and_parts _ _ i).1))
  where
    rest : (o : Option ℕ) → is_some (shifted o) ≡ true → is_some o ≡ true
    rest (Some n) e = refl
    rest None e = absurd cc

    by : (b : Bool) → bytes_eq u x ≡ b → is_some (here_or b (number_of u us)) ≡ true → (has us u ≡ true → has all u ≡ true) → has all u ≡ true
    by true e w again = subst (λ (y : Word). has all y ≡ true) (sym ((bytes_eq-Decides u x).0 e)) ((and_parts _ _ i).0)
    by false e w again = again (rest (number_of u us) w)

with_known : (w : Word) (ws : List Word) → has ws w ≡ true → words_with w ws ≡ ws
with_known w ws h = by (number_of w ws) h
  where
    by : (o : Option ℕ) → is_some o ≡ true → with_new o w ws ≡ ws
    by (Some n) e = refl
    by None e = absurd cc

pub place-append : (known a b : List Word) → by_first_place known (a ++ b) ≡ by_first_place (by_first_place known a) b
place-append known [] b = refl
place-append known (w ∷ a) b = place-append (words_with w known) a b

-- Words by their first place, placed after others, are placed as the words themselves are.
pub place-place : (known names ws : List Word) → by_first_place known (by_first_place names ws) ≡ by_first_place (by_first_place known names) ws
place-place known names [] = refl
place-place known names (w ∷ ws) = place-place known (words_with w names) ws ∙ ap (λ (us : List Word). by_first_place us ws) (by (number_of w names) refl)
  where
    by : (o : Option ℕ) → number_of w names ≡ o → by_first_place known (with_new o w names) ≡ words_with w (by_first_place known names)
    by None e = place-append known names (w ∷ [])
    by (Some n) e = sym (with_known w (by_first_place known names) (among (by_first_place known names) names w (ap is_some e) (has_each known names)))

-- ---- one word in front

-- Words with one of them in front are led by it, and have the same words.
pub led_in_front : (w : Word) (ws : List Word) → has ws w ≡ true → led_by (Some w) ws ≡ by_first_place (w ∷ []) ws
led_in_front w ws h = by (number_of w ws) h
  where
    by : (o : Option ℕ) → is_some o ≡ true → moved_in_front o w ws ≡ by_first_place (w ∷ []) ws
    by (Some n) e = refl
    by None e = absurd cc

pub led_first : (w : Word) (ws : List Word) → number_of w (by_first_place (w ∷ []) ws) ≡ Some 0
led_first w ws = leader-number w (by_first_place (w ∷ []) ws) (leads w (w ∷ []) ws (record { behind = []; same = refl }))

pub has_behind : (ws : List Word) (v u : Word) → has ws u ≡ true → has (v ∷ ws) u ≡ true
has_behind ws v u h = ap is_some (number_first u v ws) ∙ by (bytes_eq u v) (number_of u ws) h
  where
    by : (b : Bool) (o : Option ℕ) → is_some o ≡ true → is_some (here_or b o) ≡ true
    by true o e = refl
    by false (Some n) e = refl
    by false None e = absurd cc

has_all_behind : (ws : List Word) (v : Word) (us : List Word) → has_all ws us ≡ true → has_all (v ∷ ws) us ≡ true
has_all_behind ws v [] h = refl
has_all_behind ws v (u ∷ us) h = and_from _ _ (has_behind ws v u ((and_parts _ _ h).0)) (has_all_behind ws v us ((and_parts _ _ h).1))

pub has_here : (ws : List Word) (v : Word) → has (v ∷ ws) v ≡ true
has_here ws v = ap is_some (number_first v v ws) ∙ ap (λ (b : Bool). is_some (here_or b (number_of v ws))) ((bytes_eq-Decides v v).1 refl)

pub has_itself : (ws : List Word) → has_all ws ws ≡ true
has_itself [] = refl
has_itself (w ∷ ws) = and_from _ _ (has_here ws w) (has_all_behind ws w ws (has_itself ws))

one_has : (ws : List Word) (w : Word) → has ws w ≡ true → (u : Word) → has (w ∷ []) u ≡ true → has ws u ≡ true
one_has ws w h u e = among ws (w ∷ []) u e (and_from _ _ h refl)

-- a word that is led by is one of them
pub led_has : (o : Option Word) (ws : List Word) (u : Word) → has (led_by o ws) u ≡ true → has ws u ≡ true
led_has None ws u h = h
led_has (Some w) ws u h = by (number_of w ws) refl h
  where
    self : (vs : List Word) → has_all vs vs ≡ true → has (by_first_place (w ∷ []) vs) u ≡ true → ((x : Word) → has (w ∷ []) x ≡ true → has vs x ≡ true) → has vs u ≡ true
    self vs all e one = placed_among vs (w ∷ []) vs u one all e

    by : (o : Option ℕ) → number_of w ws ≡ o → has (moved_in_front o w ws) u ≡ true → has ws u ≡ true
    by None e k = k
    by (Some n) e k = self ws (has_itself ws) k (one_has ws w (ap is_some e))

-- ---- where there are as many as may be

-- one more word changes nothing
pub full_stays : (known ws : List Word) (w : Word) (most : ℕ) → length known ≡ most → take most (by_first_place known ws) ≡ take most (by_first_place (words_with w known) ws)
full_stays known ws w most e = by (number_of w known)
  where
    by : (o : Option ℕ) → take most (by_first_place known ws) ≡ take most (by_first_place (with_new o w known) ws)
    by (Some n) = refl
    by None =
        let c = begins (known ++ w ∷ []) ws in
        take_known known ws most e ∙ sym (ap (λ (n : ℕ). take n (by_first_place (known ++ w ∷ []) ws)) (sym e) ∙ ap (take (length known)) (c.1 ∙ append_assoc known (w ∷ []) c.0) ∙ take_front known (w ∷ c.0))

pub length_more : (known : List Word) (w : Word) → length (words_with w known) ≤ length known + 1
length_more known w = by (number_of w known)
  where
    by : (o : Option ℕ) → length (with_new o w known) ≤ length known + 1
    by (Some n) = omega arith
    by None = omega (arith, length-append known (w ∷ []))

-- the word after those that are placed
pub place_next : (known ws : List Word) (n : ℕ) (w : Word) → slice_get ws n ≡ Some w → by_first_place known (take (suc n) ws) ≡ words_with w (by_first_place known (take n ws))
place_next known [] n w e = absurd cc
place_next known (x ∷ ws) zero w e = let is : x ≡ w = cc in ap (λ (y : Word). words_with y known) is
place_next known (x ∷ ws) (suc n) w e = place_next (words_with x known) ws n w e

pub past_all : {X : Type 0} (xs : List X) (n : ℕ) → length xs ≤ n → drop n xs ≡ []
past_all [] zero h = refl
past_all [] (suc n) h = refl
past_all (x ∷ xs) zero h = absurd (omega arith)
past_all (x ∷ xs) (suc n) h = past_all xs n (omega arith)

-- ---- one in front

abbrev one : Bool → ℕ
one true = 1
one false = 0

-- how many of the words are among these
abbrev hits : List Word → List Word → ℕ
hits known [] = 0
hits known (w ∷ ws) = one (has known w) + hits known ws

one_more : (a b : Bool) → (a ≡ true → b ≡ true) → one a ≤ one b
one_more true true h = omega arith
one_more true false h = absurd (let e : false ≡ true = h refl in cc)
one_more false b h = omega arith

hits_more : (known : List Word) (u : Word) (ws : List Word) → hits known ws ≤ hits (words_with u known) ws
hits_more known u [] = omega arith
hits_more known u (w ∷ ws) = let a = one_more (has known w) (has (words_with u known) w) (has_more known u w) in let b = hits_more known u ws in omega arith

few_placed : (known ws : List Word) → length (by_first_place known ws) + hits known ws ≤ length known + length ws
few_placed known [] = omega arith
few_placed known (w ∷ ws) = by (number_of w known) refl (λ names. few_placed names ws)
  where
    by : (o : Option ℕ) → number_of w known ≡ o → ((names : List Word) → length (by_first_place names ws) + hits names ws ≤ length names + length ws) → length (by_first_place (with_new o w known) ws) + (one (has known w) + hits known ws) ≤ length known + length (w ∷ ws)
    by (Some n) e again = let b = again known in let h : has known w ≡ true = ap is_some e in let k : one (has known w) ≡ 1 = ap one h in omega (arith, b, k)
    by None e again =
        let b = again (known ++ w ∷ []) in
        let h : has known w ≡ false = ap is_some e in
        let k : one (has known w) ≡ 0 = ap one h in
        let same : words_with w known ≡ known ++ w ∷ [] = ap (λ (o : Option ℕ). with_new o w known) e in
        let more : hits known ws ≤ hits (known ++ w ∷ []) ws = subst (λ (names : List Word). hits known ws ≤ hits names ws) same (hits_more known w ws) in
        omega (arith, b, k, more, length-append known (w ∷ []))

hit : (known ws : List Word) (w : Word) → has ws w ≡ true → has known w ≡ true → 1 ≤ hits known ws
hit known [] w h i = absurd cc
hit known (x ∷ ws) w h i = by (bytes_eq w x) refl (sym (ap is_some (number_first w x ws)) ∙ h) (λ j. hit known ws w j i)
  where
    rest : (o : Option ℕ) → is_some (shifted o) ≡ true → is_some o ≡ true
    rest (Some n) e = refl
    rest None e = absurd cc

    by : (b : Bool) → bytes_eq w x ≡ b → is_some (here_or b (number_of w ws)) ≡ true → (has ws w ≡ true → 1 ≤ hits known ws) → 1 ≤ one (has known x) + hits known ws
    by true e g again = let same : has known x ≡ true = ap (has known) (sym ((bytes_eq-Decides w x).0 e)) ∙ i in let k : one (has known x) ≡ 1 = ap one same in omega (arith, k)
    by false e g again = let l = again (rest (number_of w ws) g) in omega arith

-- a word of a list, placed in front of it, makes it no longer
pub led_no_longer : (w : Word) (ws : List Word) → has ws w ≡ true → length (by_first_place (w ∷ []) ws) ≤ length ws
led_no_longer w ws h = let a = few_placed (w ∷ []) ws in let b = hit (w ∷ []) ws w h (has_here [] w) in omega arith

pub some_is : {X : Type 0} (o : Option X) → IsSome o → is_some o ≡ true
some_is (Some x) h = refl
some_is None h = h

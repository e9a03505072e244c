-- The places of words among words.
use Rattle.std.proofs.Common.{◌≡◌, ℕ, suc, zero, ◌+◌, ◌<◌, ◌≤◌, Bool, true, false, cond, not, List, [], ◌∷◌, ◌++◌, length, Option, Some, None, refl, ap, sym, subst, ◌∙◌, arith}
use Rattle.std.proofs.lemmas.Bool.Decides.{nat_tests}
use Rattle.std.proofs.lemmas.Slice.Eq.{bytes_eq-Decides}
use Rattle.std.proofs.lemmas.List.{get_or_append_left, get_or-append-add}
use Rattle.std.specs.Prelude.{nat_lt, slice_index_or, EachIndex}
use Rattle.std.specs.List.{position_or_len}
use Rattle.std.specs.Str.{bytes_eq}
use Rattle.tv_program.specs.Words.{Word, number_of, words_with, with_new}
use Rattle.tv_language.specs.Symbols.{by_first_place}

-- ---- a word among others, by the first of them

abbrev pub shifted : Option ℕ → Option ℕ
shifted None = None
shifted (Some n) = Some (suc n)

abbrev pub here_or : Bool → Option ℕ → Option ℕ
here_or true o = Some 0
here_or false o = shifted o

shifted_by : (t : Bool) (m l : ℕ) → nat_lt m l ≡ t → cond (nat_lt (1 + m) (suc l)) (Some (1 + m)) None ≡ shifted (cond t (Some m) None)
shifted_by true m l h = let t : nat_lt (1 + m) (suc l) ≡ true = grind (arith, nat_tests) in rw t (ap (λ (n : ℕ). Some n) (let one : 1 + m ≡ suc m = omega arith in one))
shifted_by false m l h = let t : nat_lt (1 + m) (suc l) ≡ false = grind (arith, nat_tests) in rw t refl

first_by : (b : Bool) (m l : ℕ) → cond (nat_lt (cond (not b) (1 + m) 0) (suc l)) (Some (cond (not b) (1 + m) 0)) None ≡ here_or b (cond (nat_lt m l) (Some m) None)
first_by true m l = let t : nat_lt 0 (suc l) ≡ true = grind (arith, nat_tests) in rw t refl
first_by false m l = shifted_by (nat_lt m l) m l refl

pub number_first : (w x : Word) (xs : List Word) → number_of w (x ∷ xs) ≡ here_or (bytes_eq w x) (number_of w xs)
number_first w x xs = first_by (bytes_eq w x) (position_or_len (bytes_eq w) xs) (length xs)

-- ---- the word at the place that was found

found_behind : (w x : Word) (xs : List Word) (o : Option ℕ) (n : ℕ) → ((m : ℕ) → o ≡ Some m → slice_index_or xs m [] ≡ w) → shifted o ≡ Some n → slice_index_or (x ∷ xs) n [] ≡ w
found_behind w x xs None n again h = absurd cc
found_behind w x xs (Some m) n again h = let e : suc m ≡ n = cc in subst (λ (k : ℕ). slice_index_or (x ∷ xs) k [] ≡ w) e (again m refl)

found_by : (w x : Word) (xs : List Word) (b : Bool) (n : ℕ) → bytes_eq w x ≡ b → ((m : ℕ) → number_of w xs ≡ Some m → slice_index_or xs m [] ≡ w) → here_or b (number_of w xs) ≡ Some n → slice_index_or (x ∷ xs) n [] ≡ w
found_by w x xs true n is again h = let e : 0 ≡ n = cc in subst (λ (k : ℕ). slice_index_or (x ∷ xs) k [] ≡ w) e (sym ((bytes_eq-Decides w x).0 is))
found_by w x xs false n is again h = found_behind w x xs (number_of w xs) n again h

pub found : (w : Word) (ws : List Word) (n : ℕ) → number_of w ws ≡ Some n → slice_index_or ws n [] ≡ w
found w [] n h = absurd cc
found w (x ∷ xs) n h = found_by w x xs (bytes_eq w x) n refl (found w xs) (sym (number_first w x xs) ∙ h)

-- ---- one word more

abbrev pub or_last : Option ℕ → Bool → ℕ → Option ℕ
or_last (Some n) b l = Some n
or_last None true l = Some l
or_last None false l = None

last_behind : (b c : Bool) (o : Option ℕ) (l : ℕ) → here_or b (or_last o c l) ≡ or_last (here_or b o) c (suc l)
last_behind true c o l = refl
last_behind false c (Some n) l = refl
last_behind false true None l = refl
last_behind false false None l = refl

alone : (b : Bool) → here_or b None ≡ or_last None b 0
alone true = refl
alone false = refl

pub number_more : (w u : Word) (ws : List Word) → number_of w (ws ++ u ∷ []) ≡ or_last (number_of w ws) (bytes_eq w u) (length ws)
number_more w u [] = number_first w u [] ∙ alone (bytes_eq w u)
number_more w u (x ∷ xs) =
    number_first w x (xs ++ u ∷ []) ∙ ap (here_or (bytes_eq w x)) (number_more w u xs) ∙ last_behind (bytes_eq w x) (bytes_eq w u) (number_of w xs) (length xs)
    ∙ ap (λ (o : Option ℕ). or_last o (bytes_eq w u) (suc (length xs))) (sym (number_first w x xs))

-- ---- each word once

-- each word is found at its own place
abbrev pub Differ : List Word → Type 0
Differ ws = EachIndex ws (λ v. number_of (slice_index_or ws v []) ws ≡ Some v)

length_more : (u : Word) (ws : List Word) → length (ws ++ u ∷ []) ≡ suc (length ws)
length_more u [] = refl
length_more u (x ∷ xs) = ap suc (length_more u xs)

data Where : ℕ → ℕ → Type 0 where
  before : {v l : ℕ} → v < l → Where v l
  last : {v l : ℕ} → v ≡ l → Where v l

where_is : (v l : ℕ) → v < suc l → (b : Bool) → nat_lt v l ≡ b → Where v l
where_is v l h true t = before (grind (arith, nat_tests))
where_is v l h false t = last (let k : l ≤ v = grind (arith, nat_tests) in omega arith)

differ_at : (u : Word) (ws : List Word) → number_of u ws ≡ None → Differ ws → (v : ℕ) → Where v (length ws) → number_of (slice_index_or (ws ++ u ∷ []) v []) (ws ++ u ∷ []) ≡ Some v
differ_at u ws new old v (before h) =
    let w = slice_index_or ws v [] in
    ap (λ (x : Word). number_of x (ws ++ u ∷ [])) (get_or_append_left ws (u ∷ []) [] v h) ∙ number_more w u ws ∙ ap (λ (o : Option ℕ). or_last o (bytes_eq w u) (length ws)) (old v h)
differ_at u ws new old v (last e) =
    let here : slice_index_or (ws ++ u ∷ []) v [] ≡ u = ap (λ (k : ℕ). slice_index_or (ws ++ u ∷ []) k []) (e ∙ (let zero : length ws ≡ length ws + 0 = omega arith in zero)) ∙ get_or-append-add ws (u ∷ []) 0 [] in
    ap (λ (x : Word). number_of x (ws ++ u ∷ [])) here ∙ number_more u u ws ∙ ap (λ (o : Option ℕ). or_last o (bytes_eq u u) (length ws)) new ∙ ap (λ (b : Bool). or_last None b (length ws)) ((bytes_eq-Decides u u).1 refl)
    ∙ ap (λ (n : ℕ). Some n) (sym e)

differ_more : (u : Word) (ws : List Word) (o : Option ℕ) → number_of u ws ≡ o → Differ ws → Differ (with_new o u ws)
differ_more u ws (Some n) is old v h = old v h
differ_more u ws None is old v h = differ_at u ws is old v (where_is v (length ws) (subst (λ (k : ℕ). v < k) (length_more u ws) h) (nat_lt v (length ws)) refl)

pub each_once : (known ws : List Word) → Differ known → Differ (by_first_place known ws)
each_once known [] h = h
each_once known (w ∷ ws) h = each_once (words_with w known) ws (differ_more w known (number_of w known) refl h)

-- ---- each word of some kind

abbrev pub Each : (Word → Type 0) → List Word → Type 0
Each P [] = Unit {0}
Each P (w ∷ ws) = P w × Each P ws

each_more : (P : Word → Type 0) (ws : List Word) (u : Word) → Each P ws → P u → Each P (ws ++ u ∷ [])
each_more P [] u h k = (k, tt)
each_more P (w ∷ ws) u h k = (h.0, each_more P ws u h.1 k)

each_with : (P : Word → Type 0) (ws : List Word) (u : Word) (o : Option ℕ) → Each P ws → P u → Each P (with_new o u ws)
each_with P ws u None h k = each_more P ws u h k
each_with P ws u (Some n) h k = h

pub each_placed : (P : Word → Type 0) (known ws : List Word) → Each P known → Each P ws → Each P (by_first_place known ws)
each_placed P known [] h k = h
each_placed P known (w ∷ ws) h k = each_placed P (words_with w known) ws (each_with P known w (number_of w known) h k.0) k.1

pub each_index : (P : Word → Type 0) (ws : List Word) → Each P ws → EachIndex ws (λ v. P (slice_index_or ws v []))
each_index P [] h v l = absurd (omega arith)
each_index P (w ∷ ws) h zero l = h.0
each_index P (w ∷ ws) h (suc v) l = each_index P ws h.1 v (omega arith)

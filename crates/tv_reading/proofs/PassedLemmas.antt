-- What is passed is within the bounds of the names and draws after it.
use Rattle.std.proofs.Common.{◌≡◌, ℕ, zero, suc, ◌+◌, ◌^◌, ◌≤◌, ◌<◌, Bool, true, false, List, [], ◌∷◌, ◌++◌, drop, length, Option, Some, None, cond, refl, sym, ap, subst, ◌∙◌, append_assoc, length-append, arith}
use Rattle.std.proofs.lemmas.List.{append_cancel_right}
use Rattle.std.proofs.lemmas.Bool.Decides.{nat_tests}
use Rattle.std.specs.Prelude.{nat_lt}
use Rattle.std.specs.List.{position, position_or_len}
use Rattle.std.specs.Str.{bytes_eq}
use Rattle.tv_language.specs.declared.token.TokenKind.{TokenKind}
use Rattle.tv_language.specs.declared.token.TokenKind.TheVariants as kinds
use Rattle.tv_language.specs.declared.token.Token.{Token}
use Rattle.tv_language.specs.Numbers.{value_of_digits}
use Rattle.tv_program.specs.Words.{Word, number_of, with_new, words_with}
use Rattle.tv_language.specs.Symbols.{Symbol, number, name, label, drawn, fixed, lexeme}
use Rattle.tv_grammar.specs.Reads.{next}
use Rattle.tv_reading.specs.Marks.{TooMany, Mark, plain, refused, symbol_of, symbols_of, new_name, known_name, draw_mark, number_mark, mark_by, names_behind, draws_behind, Stand, left, past, first, Passes, stay, pass, is_formula_word}
use Rattle.tv_reading.specs.Readings.{IsWithin, IsKept}
use Rattle.tv_reading.proofs.MarkLemmas.{next_is, left_past}
use Rattle.tv_reading.proofs.FitLemmas.{symbol_fits, all_fit}
use Rattle.std.proofs.lemmas.Bool.{and_from, and_parts, lt-ltb, ltb-true}

pub position_within : {X : Type 0} (p : X → Bool) (xs : List X) (k : ℕ) → position p xs ≡ Some k → k < length xs
position_within p xs k e = by (nat_lt (position_or_len p xs) (length xs)) refl e
  where
    by : (b : Bool) → nat_lt (position_or_len p xs) (length xs) ≡ b → cond b (Some (position_or_len p xs)) None ≡ Some k → k < length xs
    by true at is = let same : position_or_len p xs ≡ k = cc in grind (arith, nat_tests)
    by false at is = absurd cc

-- ---- the names and draws only grow

grown : (o : Option ℕ) (w : Word) (names : List Word) → length names ≤ length (with_new o w names)
grown None w names = omega (arith, length-append names (w ∷ []))
grown (Some k) w names = omega arith

names_by : (b : Bool) (w : Word) (names : List Word) → length names ≤ length (cond b (words_with w names) names)
names_by true w names = grown (number_of w names) w names
names_by false w names = omega arith

names_grow : (grows : Bool) (kind : TokenKind) (w : Word) (names : List Word) → length names ≤ length (names_behind grows kind w names)
names_grow true kinds.Name w names = names_by (nat_lt (length names) 512) w names
names_grow false kind w names = omega arith
names_grow true kind w names = omega arith

draws_by : (b : Bool) (draws : ℕ) → draws ≤ cond b (suc draws) draws
draws_by true draws = omega arith
draws_by false draws = omega arith

draws_grow : (kind : TokenKind) (draws : ℕ) → draws ≤ draws_behind kind draws
draws_grow kinds.Nondet draws = draws_by (nat_lt draws 64) draws
draws_grow kind draws = omega arith

-- ---- a mark fits after it

new_fits : (o : Option ℕ) (w : Word) (names : List Word) (d : ℕ) → o ≡ number_of w names → symbol_fits (length (cond (nat_lt (length names) 512) (with_new o w names) names)) d (symbol_of (new_name o (length names))) ≡ true
new_fits (Some k) w names d e = lt-ltb k (length (cond (nat_lt (length names) 512) names names)) (by (nat_lt (length names) 512))
  where
    by : (b : Bool) → k < length (cond b names names)
    by true = position_within (bytes_eq w) names k (sym e)
    by false = position_within (bytes_eq w) names k (sym e)
new_fits None w names d e = by (nat_lt (length names) 512)
  where
    by : (b : Bool) → symbol_fits (length (cond b (names ++ w ∷ []) names)) d (symbol_of (cond b (plain (name (length names))) (refused TooMany kinds.Name))) ≡ true
    by true = lt-ltb (length names) (length (names ++ w ∷ [])) (omega (arith, length-append names (w ∷ [])))
    by false = refl

known_fits : (b : Bool) (o : Option ℕ) (w : Word) (names : List Word) (d : ℕ) → o ≡ number_of w names → symbol_fits (length names) d (symbol_of (known_name b o)) ≡ true
known_fits true o w names d e = refl
known_fits false None w names d e = refl
known_fits false (Some k) w names d e = lt-ltb k (length names) (position_within (bytes_eq w) names k (sym e))

number_fits : (n v d : ℕ) → symbol_fits v d (symbol_of (number_mark n)) ≡ true
number_fits n v d = by (nat_lt n (2 ^ 62)) refl
  where
    by : (b : Bool) → nat_lt n (2 ^ 62) ≡ b → symbol_fits v d (symbol_of (cond b (plain (number n)) (plain (fixed kinds.Wide)))) ≡ true
    by true e = e
    by false e = refl

draw_fits : (grows : Bool) (v draws : ℕ) → symbol_fits v (draws_behind kinds.Nondet draws) (symbol_of (draw_mark grows draws)) ≡ true
draw_fits false v draws = refl
draw_fits true v draws = by (nat_lt draws 64)
  where
    by : (b : Bool) → symbol_fits v (cond b (suc draws) draws) (symbol_of (cond b (plain (drawn draws)) (refused TooMany kinds.Nondet))) ≡ true
    by true = lt-ltb draws (suc draws) (omega arith)
    by false = refl

mark_fits : (grows : Bool) (names : List Word) (draws : ℕ) (kind : TokenKind) (w : Word) → symbol_fits (length (names_behind grows kind w names)) (draws_behind kind draws) (symbol_of (mark_by grows names draws kind w)) ≡ true
mark_fits true names draws kinds.Name w = new_fits (number_of w names) w names draws refl
mark_fits false names draws kinds.Name w = known_fits (is_formula_word w) (number_of w names) w names draws refl
mark_fits grows names draws kinds.Number w = number_fits (value_of_digits w) (length (names_behind grows kinds.Number w names)) draws
mark_fits grows names draws kinds.Nondet w = draw_fits grows (length (names_behind grows kinds.Nondet w names)) draws
mark_fits true names draws kind w = refl
mark_fits false names draws kind w = refl

-- ---- larger bounds

symbol_more : (v d w e : ℕ) → v ≤ w → d ≤ e → (s : Symbol) → symbol_fits v d s ≡ true → symbol_fits w e s ≡ true
symbol_more v d w e h i (number k) f = f
symbol_more v d w e h i (name k) f = let l = ltb-true k v f in lt-ltb k w (omega arith)
symbol_more v d w e h i (label k) f = refl
symbol_more v d w e h i (drawn k) f = let l = ltb-true k d f in lt-ltb k e (omega arith)
symbol_more v d w e h i (fixed kind) f = refl

all_more : (v d w e : ℕ) → v ≤ w → d ≤ e → (ss : List Symbol) → all_fit v d ss ≡ true → all_fit w e ss ≡ true
all_more v d w e h i [] f = refl
all_more v d w e h i (s ∷ ss) f = and_from _ _ (symbol_more v d w e h i s ((and_parts _ _ f).0)) (all_more v d w e h i ss ((and_parts _ _ f).1))

-- ---- what is passed

pub record Between (s u : Stand) : Type 0 where
  pub passed : List Mark
  pub parts : left s ≡ passed ++ left u
  pub fits : all_fit (length u.names) u.draws (symbols_of passed) ≡ true

pub symbols-append : (a b : List Mark) → symbols_of (a ++ b) ≡ symbols_of a ++ symbols_of b
symbols-append [] b = refl
symbols-append (m ∷ a) b = ap (λ (us : List Symbol). symbol_of m ∷ us) (symbols-append a b)

all-append : (v d : ℕ) (a b : List Symbol) → all_fit v d a ≡ true → all_fit v d b ≡ true → all_fit v d (a ++ b) ≡ true
all-append v d [] b h i = i
all-append v d (s ∷ a) b h i = and_from _ _ ((and_parts _ _ h).0) (all-append v d a b ((and_parts _ _ h).1) i)

starts_with : (ms : List Mark) (m : Mark) → next ms ≡ Some m → ms ≡ m ∷ drop 1 ms
starts_with [] m e = absurd cc
starts_with (n ∷ ms) m e = let is : n ≡ m = cc in ap (λ (x : Mark). x ∷ ms) is

pub here_is : (u : Stand) (t : Token) → first (drop u.at u.tokens) ≡ Some t → left u ≡ mark_by u.grows u.names u.draws t.kind (lexeme u.text t).word ∷ left (past u t)
here_is u t e =
    let m : Mark = mark_by u.grows u.names u.draws t.kind (lexeme u.text t).word in
    starts_with (left u) m (next_is u.text u.grows u.names u.draws (drop u.at u.tokens) t e) ∙ ap (λ (ms : List Mark). m ∷ ms) (sym (left_past u t e))

further : (s u : Stand) (t : Token) → Between s u → first (drop u.at u.tokens) ≡ Some t → Between s (past u t)
further s u t b e =
    let m : Mark = mark_by u.grows u.names u.draws t.kind (lexeme u.text t).word in
    let here : left u ≡ m ∷ left (past u t) = here_is u t e in
    let v : ℕ = length (past u t).names in
    let d : ℕ = (past u t).draws in
    record {
      passed = b.passed ++ m ∷ [];
      parts = b.parts ∙ ap (λ (ms : List Mark). b.passed ++ ms) here ∙ sym (append_assoc b.passed (m ∷ []) (left (past u t)));
      fits = ap (all_fit v d) (symbols-append b.passed (m ∷ [])) ∙ all-append v d (symbols_of b.passed) (symbols_of (m ∷ []))
          (all_more (length u.names) u.draws v d (names_grow u.grows t.kind (lexeme u.text t).word u.names) (draws_grow t.kind u.draws) (symbols_of b.passed) b.fits)
          (and_from _ _ (mark_fits u.grows u.names u.draws t.kind (lexeme u.text t).word) refl);
    }

pub between : {s u : Stand} → Passes s u → Between s u
between (stay s) = record { passed = []; parts = refl; fits = refl }
between (pass {s} {u} {t} p e) = further s u t (between p) e

-- marks before the same ones are those that are passed
pub passed_fit : (s u : Stand) → Passes s u → (passed : List Mark) → left s ≡ passed ++ left u → all_fit (length u.names) u.draws (symbols_of passed) ≡ true
passed_fit s u p passed e =
    let b = between p in
    let is : b.passed ≡ passed = append_cancel_right b.passed passed (left u) (sym b.parts ∙ e) in
    subst (λ (ms : List Mark). all_fit (length u.names) u.draws (symbols_of ms) ≡ true) is b.fits

-- ---- few names and draws

few_by : (o : Option ℕ) (w : Word) (names : List Word) → length (with_new o w names) ≤ length names + 1
few_by None w names = omega (arith, length-append names (w ∷ []))
few_by (Some k) w names = omega arith

few_names_by : (b : Bool) (w : Word) (names : List Word) → nat_lt (length names) 512 ≡ b → length names ≤ 512 → length (cond b (words_with w names) names) ≤ 512
few_names_by true w names e h = let l = ltb-true (length names) 512 e in let g = few_by (number_of w names) w names in omega arith
few_names_by false w names e h = h

few_names : (grows : Bool) (kind : TokenKind) (w : Word) (names : List Word) → length names ≤ 512 → length (names_behind grows kind w names) ≤ 512
few_names true kinds.Name w names h = few_names_by (nat_lt (length names) 512) w names refl h
few_names false kind w names h = h
few_names true kind w names h = h

few_draws_by : (b : Bool) (draws : ℕ) → nat_lt draws 64 ≡ b → draws ≤ 64 → cond b (suc draws) draws ≤ 64
few_draws_by true draws e h = let l = ltb-true draws 64 e in omega arith
few_draws_by false draws e h = h

few_draws : (kind : TokenKind) (draws : ℕ) → draws ≤ 64 → draws_behind kind draws ≤ 64
few_draws kinds.Nondet draws h = few_draws_by (nat_lt draws 64) draws refl h
few_draws kind draws h = h

within_past : (s : Stand) (t : Token) → IsWithin s → IsWithin (past s t)
within_past s t h = (few_names s.grows t.kind (lexeme s.text t).word s.names h.0, few_draws t.kind s.draws h.1)

-- a token that is left is one of the list
in_list : (ts : List Token) (at : ℕ) (t : Token) → first (drop at ts) ≡ Some t → at < length ts
in_list [] at t e = absurd (none_left at e)
  where
    none_left : (at : ℕ) → first (drop at []) ≡ Some t → ⊥
    none_left zero e = absurd cc
    none_left (suc at) e = absurd cc
in_list (x ∷ ts) zero t e = omega arith
in_list (x ∷ ts) (suc at) t e = let h = in_list ts at t e in omega arith

kept_past : (s u : Stand) (t : Token) → first (drop u.at u.tokens) ≡ Some t → IsKept s u → IsKept s (past u t)
kept_past s u t e k = record {
  text = k.text;
  tokens = k.tokens;
  grows = k.grows;
  level = k.level;
  further = let h = k.further in omega arith;
  inside = λ h. let l = in_list u.tokens u.at t e in omega arith;
  within = λ h. within_past u t (k.within h);
}

kept_by : {s u : Stand} → Passes s u → IsKept s u
kept_by (stay s) = record { text = refl; tokens = refl; grows = refl; level = refl; further = omega arith; inside = λ h. h; within = λ h. h }
kept_by (pass {s} {u} {t} p e) = kept_past s u t e (kept_by p)

pub passes_kept : (s u : Stand) → Passes s u → IsKept s u
passes_kept s u p = kept_by p

use Rattle.std.proofs.Common.{◌≡◌, ℕ, ◌+◌, ◌≤◌, List, [], ◌∷◌, ◌++◌, length, drop, ℤ, Some, refl, sym, ap, arith, append_assoc, ◌∙◌}
use Rattle.std.specs.Prelude.{Result, Ok, Err, OnOk}
use Rattle.std.specs.List.{slice_get}
use Rattle.std.proofs.lemmas.List.{drop_all}
use Rattle.tv_program.specs.Words.{Word}
use Rattle.tv_top.specs.Answers.{value_line, value_lines}
use Rattle.tv_cases.proofs.LeavingLemmas.{first_left}

-- the lines from the variable with this number on begin with its line
pub next_line : (names : List Word) (values : List ℤ) (n : ℕ) (w : Word) (v : ℤ) → slice_get names n ≡ Some w → slice_get values n ≡ Some v
    → value_lines (drop n names) (drop n values) ≡ value_line w v ++ value_lines (drop (n + 1) names) (drop (n + 1) values)
next_line names values n w v e h =
    ap (λ ns. value_lines ns (drop n values)) (first_left names n w e) ∙ ap (λ vs. value_lines (w ∷ drop (n + 1) names) vs) (first_left values n v h)

no_values : (names : List Word) → value_lines names [] ≡ []
no_values [] = refl
no_values (w ∷ names) = refl

-- after the values there are no lines
pub no_lines : (names : List Word) (values : List ℤ) (n : ℕ) → length values ≤ n → value_lines names (drop n values) ≡ []
no_lines names values n h = ap (λ vs. value_lines names vs) (drop_all n values h) ∙ no_values names

on_ok : {X E : Type 0} (r : Result X E) (P Q : Type 0) → (P → Q) → OnOk r P → OnOk r Q
on_ok (Ok x) P Q f h = f h
on_ok (Err e) P Q f h = h

-- where the line of a variable was added, those after it are left
pub line_added : {E : Type 0} (r : Result (Unit {0}) E) (names : List Word) (values : List ℤ) (n : ℕ) (w : Word) (v : ℤ) (old new : List ℕ) → slice_get names n ≡ Some w → slice_get values n ≡ Some v → OnOk r (new ≡ old ++ value_line w v)
    → OnOk r (new ++ value_lines (drop (n + 1) names) (drop (n + 1) values) ≡ old ++ value_lines (drop n names) (drop n values))
line_added r names values n w v old new e h = on_ok r _ _ (λ added.
    ap (λ (bytes : List ℕ). bytes ++ value_lines (drop (n + 1) names) (drop (n + 1) values)) added
    ∙ append_assoc old (value_line w v) (value_lines (drop (n + 1) names) (drop (n + 1) values))
    ∙ ap (λ (bytes : List ℕ). old ++ bytes) (sym (next_line names values n w v e h)))

-- after the values nothing is left
pub none_left : (names : List Word) (values : List ℤ) (n : ℕ) (old : List ℕ) → length values ≤ n
    → old ++ value_lines (drop (n + 1) names) (drop (n + 1) values) ≡ old ++ value_lines (drop n names) (drop n values)
none_left names values n old h = ap (λ (bytes : List ℕ). old ++ bytes) (no_lines (drop (n + 1) names) values (n + 1) (omega (arith, h)) ∙ sym (no_lines (drop n names) values n h))

-- Rows inside of others, at integer points.
use Rattle.std.proofs.Common.{◌≡◌, ◌∙◌, ℕ, ◌<◌, List, [], ◌∷◌, ◌++◌, length, get_or, ℤ, Bool, true, false}
use Rattle.std.specs.Prelude.{not, Vec}
use Rattle.std.specs.Global.{Global}
use Rattle.tv_linear.specs.Linear.{Linear}
use Rattle.tv_linear.specs.Known.{as_given}
use Rattle.tv_linear.specs.Refutation.{Refutes}
use Rattle.tv_linear.specs.declared.row.Row.{Row}
use Rattle.tv_linear.proofs.KnownLemmas.{refuted, met-as_given}
use Rattle.tv_cases.specs.Given.{row_lists}
use Rattle.tv_region.specs.Met.{meets, all_met}
use Rattle.tv_region.specs.Inclusion.{LiesInside, LiesInSome}
use Rattle.tv_region.proofs.MetLemmas.{all_met-push, all_met-all}
use Rattle.tv_region.proofs.AddLemmas.{some_met-has, list_has}
use Rattle.std.proofs.lemmas.Bool.{and_from}

pub no_point : (n : ℕ) (rows : List Linear) (more : Linear) (ms : List ℤ) → Refutes n (as_given (rows ++ more ∷ [])) ms → (xs : List ℤ) → length xs ≡ n → all_met xs rows ≡ true → meets xs more ≡ true → ⊥
no_point n rows more ms h xs e a b =
    let all = all_met-push xs rows more ∙ and_from (all_met xs rows) (meets xs more) a b in
    refuted n (as_given (rows ++ more ∷ [])) ms xs h e ((met-as_given xs (rows ++ more ∷ [])).0 (all_met-all xs (rows ++ more ∷ []) all))

is_or_not : (b : Bool) → (not b ≡ true → ⊥) → b ≡ true
is_or_not true h = λ i. true
is_or_not false h = absurd (h (λ i. true))

pub inside_some : (n : ℕ) (rows : List Linear) (vs : List (Vec Row Global)) (i : ℕ) (v : Vec Row Global) → i < length vs → v ≡ get_or vs i v → LiesInside n rows v.items → LiesInSome n rows (row_lists vs)
inside_some n rows vs i v l e h xs w m = some_met-has xs (row_lists vs) v.items (list_has vs i v l e) (h xs w m)

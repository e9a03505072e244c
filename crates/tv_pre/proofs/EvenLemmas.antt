-- The rows of a formula have a column for each variable.
use Rattle.std.proofs.Common.{drop, ◌≡◌, ℕ, zero, suc, ◌+◌, List, [], ◌∷◌, subst, arith, Bool, true, false}
use Rattle.std.specs.Prelude.{All, cond}
use Rattle.std.proofs.lemmas.List.Elements.{All-nil, All-cons}
use Rattle.tv_program.specs.declared.tree.Relation.{Relation}
use Rattle.tv_program.specs.Trees.{Expression, Transition, assume}
use Rattle.tv_program.specs.Trees as trees
use Rattle.tv_linear.specs.Linear.{Linear, columns}
use Rattle.tv_formula.specs.Properties.{Property, truth, compare, at, term, negated, all_of, some_of, next, fix, Properties, none, more}
use Rattle.tv_cases.specs.Comparisons.{comparison_lists, has_rows}
use Rattle.tv_cases.specs.EdgeCases.{columns_from}
use Rattle.tv_cases.specs.Lists.{lists_of, pairs}
use Rattle.tv_cases.proofs.EvenRows.{ListsWide, all-wide, edge-wide}
use Rattle.tv_cert.specs.declared.aim.Aim.{Aim}
use Rattle.tv_cert.specs.AimViews.{aims_state}
use Rattle.tv_cert.specs.Obligations.{truth_targets}
use Rattle.tv_cert.specs.Statements.{denial_of, stated, stated_all}
use Rattle.tv_cover.specs.Targets.{AreEven}
use Rattle.tv_pre.specs.Finding.{IsEvenStatement, AreEvenStatements}

unpaired : (w : ℕ) (ls : List (List Linear)) → ListsWide w (pairs ([] ∷ []) ls) → All (AreEven w) ls
unpaired w [] h = All-nil (AreEven w)
unpaired w (l ∷ ls) h = All-cons (AreEven w) l ls (all-wide w l h.0) (unpaired w ls h.1)

abbrev own_edge : Relation → Expression → Expression → Transition
own_edge r a b = record { from = 0; to = 0; draws = 0; instructions = assume (trees.compare r a b) ∷ [] }

own_lists : (n : ℕ) (r : Relation) (a b : Expression) → ListsWide n (pairs ([] ∷ []) (lists_of n n (columns_from n 0 n) true (trees.compare r a b)))
own_lists n r a b =
    subst (λ w. ListsWide w (pairs ([] ∷ []) (lists_of n w (columns_from w 0 n) true (trees.compare r a b)))) (let e : n + 0 ≡ n = omega arith in e) (edge-wide n (own_edge r a b)).lists

comparison_even : (n : ℕ) (r : Relation) (a b : Expression) → All (AreEven n) (comparison_lists n r a b)
comparison_even n r a b = by_test (has_rows n r a b) where
  by_test : (told : Bool) → All (AreEven n) (cond told (lists_of n n (columns_from n 0 n) true (trees.compare r a b)) [])
  by_test true = unpaired n (lists_of n n (columns_from n 0 n) true (trees.compare r a b)) (own_lists n r a b)
  by_test false = All-nil (AreEven n)

truth_even : (n : ℕ) (b : Bool) → All (AreEven n) (truth_targets b)
truth_even n true = All-cons (AreEven n) [] [] (All-nil (λ r. columns r ≡ n)) (All-nil (AreEven n))
truth_even n false = All-nil (AreEven n)

denial_even : (n : ℕ) (f : Property) → IsEvenStatement n (denial_of f)
denial_even n (truth b) = tt
denial_even n (compare r a b) = tt
denial_even n (at l) = tt
denial_even n term = tt
denial_even n (negated f) = tt
denial_even n (all_of fs) = tt
denial_even n (some_of fs) = tt
denial_even n (next path f) = tt
denial_even n (fix path shape f g) = tt

mutual
  pub stated_even : (n : ℕ) (f : Property) → IsEvenStatement n (stated (comparison_lists n) f)
  stated_even n (truth b) = truth_even n b
  stated_even n (compare r a b) = comparison_even n r a b
  stated_even n (at l) = tt
  stated_even n term = tt
  stated_even n (negated f) = denial_even n f
  stated_even n (all_of fs) = all_even n fs
  stated_even n (some_of fs) = all_even n fs
  stated_even n (next path f) = stated_even n f
  stated_even n (fix path shape f g) = (stated_even n f, stated_even n g)

  all_even : (n : ℕ) (fs : Properties) → AreEvenStatements n (stated_all (comparison_lists n) fs)
  all_even n none = tt
  all_even n (more f fs) = (stated_even n f, all_even n fs)

pub even_later : (n : ℕ) (aims : List Aim) (i : ℕ) → AreEvenStatements n (aims_state aims) → AreEvenStatements n (aims_state (drop i aims))
even_later n aims zero h = h
even_later n [] (suc i) h = tt
even_later n (a ∷ aims) (suc i) h = even_later n aims i h.1

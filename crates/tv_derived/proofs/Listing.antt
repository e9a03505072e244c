-- lists that go on with the rows of a path
use Rattle.std.proofs.Common.{◌≡◌, inl, inr, ℕ, zero, suc, List, [], ◌∷◌, ◌++◌, refl, sym, subst, arith, ℤ}
use Rattle.std.specs.Prelude.{Option, Some, None, Vec}
use Rattle.std.specs.List.{Contains}
use Rattle.std.proofs.lemmas.List.Elements.{Contains-append_left, Contains-append_right, Contains-append_cases}
use Rattle.tv_linear.specs.Linear.{Linear}
use Rattle.tv_cases.specs.LinearCases.{CaseSystem}
use Rattle.tv_farkas.specs.declared.branch.Branch.{Branch}
use Rattle.tv_farkas.specs.Paths.{TakenOnce, none, first, again, IsFirstFraction, IsPointSplit, SplitsAt, IsCoordinateSplit, IsPath, rows_after, at_most_row, at_least_row}
use Rattle.tv_farkas.specs.RefutationSystem.{IsPointOf}
use Rattle.tv_farkas.specs.EmptyPaths.{IsEmptyPath, IsEmptyFault}
use Rattle.tv_farkas.specs.declared.fault.CoverFault.{CoverFault}
use Rattle.tv_farkas.specs.declared.fault.CoverFault.TheVariants as faults
use Rattle.tv_farkas.specs.declared.fault.CoverFault.TheVariants.{Splits, Solve}
use Rattle.tv_derived.specs.Faults.{IsRefusalOf}
use Rattle.tv_derived.specs.Questions.{IsSpentOnRows}
use Rattle.tv_derived.specs.Laws.{IsTargetSplit}
use Rattle.tv_linear.specs.Arithmetic.{denial}
use Rattle.tv_derived.specs.Scopes.{Scope, width_at, Placed}
use Rattle.tv_derived.specs.Derived.{IsListed, AreListed, AreUnsplit, IsDistinct, IsDerivedList, made, denied, derived, unsplit, split}

-- ---- rows taken once

pub one_of : (r x : Linear) → Contains (r ∷ []) x → r ≡ x
one_of r x (zero, l, e) = e
one_of r x (suc k, l, e) = absurd (omega arith)

pub among_taken : (rows kept : List Linear) (x : Linear) → TakenOnce rows kept → Contains kept x → Contains rows x
among_taken rows kept x none c = c
among_taken rows kept x (first rs ks r t never) c = elim (Contains-append_cases ks (r ∷ []) x c) [
  | inl l ↦ Contains-append_left rs (r ∷ []) x (among_taken rs ks x t l)
  | inr e ↦ Contains-append_right rs (r ∷ []) x e
]
among_taken rows kept x (again rs ks r t among) c = Contains-append_left rs (r ∷ []) x (among_taken rs ks x t c)

pub taken_distinct : (rows kept : List Linear) → TakenOnce rows kept → IsDistinct kept
taken_distinct rows kept none = none
taken_distinct rows kept (first rs ks r t never) = first ks ks r (taken_distinct rs ks t) never
taken_distinct rows kept (again rs ks r t among) = taken_distinct rs ks t

module _ {about : CaseSystem} {base : List Placed} {f : Scope} {h : ℕ} where
  pub one_more : (rows : List Linear) (r : Linear) → AreListed about base f h rows → IsListed about base f h r → AreListed about base f h (rows ++ r ∷ [])
  one_more rows r listed new x c = elim (Contains-append_cases rows (r ∷ []) x c) [
    | inl l ↦ listed x l
    | inr e ↦ subst (λ y. IsListed about base f h y) (one_of r x e) new
  ]

  pub taken_listed : (rows kept : List Linear) → TakenOnce rows kept → AreListed about base f h rows → AreListed about base f h kept
  taken_listed rows kept t listed x c = listed x (among_taken rows kept x t c)

  -- the rows that are handed to the solver: those of a list, each taken once
  pub handed_list : (rows kept : List Linear) → TakenOnce rows kept → AreListed about base f h rows → IsDerivedList about base f h kept
  handed_list rows kept t listed = record { listed = taken_listed rows kept t listed; distinct = taken_distinct rows kept t }

  -- ---- paths

  -- a list goes on with a path where each split of it is of a row that a list may have
  pub path_listed : (rule : List Linear → Branch → Type 0) → ((above : List Linear) (b : Branch) → AreListed about base f h above → rule above b → IsListed about base f h b.row) → (rows : List Linear) (path : List Branch) → AreListed about base f h rows → IsPath rule rows path → AreListed about base f h (rows_after rows path)
  path_listed rule of rows [] listed is = listed
  path_listed rule of rows (b ∷ path) listed is = path_listed rule of (rows ++ b.row ∷ []) path (one_more rows b.row listed (of rows b listed is.0)) is.1

  pub point_split : (n : ℕ) (settled : List ℤ → Type 0) (above : List Linear) (row : Linear) (values : List ℤ) (scale : ℤ) → n ≡ width_at about f → AreListed about base f h above → IsPointSplit n settled above row values scale → IsListed about base f h row
  point_split n settled above row values scale e listed is =
      split row is.kept (taken_listed above is.kept is.taken listed) (taken_distinct above is.kept is.taken) (record {
        values = values;
        scale = scale;
        point = subst (λ w. IsPointOf w is.kept values scale) e is.point;
        column = is.column;
        floor = is.floor;
        fraction = subst (λ w. IsFirstFraction w values scale is.column is.floor) e is.fraction;
        side = elim is.side [ inl low ↦ inl (subst (λ w. row ≡ at_most_row w is.column is.floor) e low) | inr high ↦ inr (subst (λ w. row ≡ at_least_row w is.column is.floor) e high.0) ];
      })

  pub splits_listed : (n : ℕ) (settled : List ℤ → Type 0) (above : List Linear) (b : Branch) → n ≡ width_at about f → AreListed about base f h above → IsCoordinateSplit n settled above b → IsListed about base f h b.row
  splits_listed n settled above b e listed is = at_kept b.point is where
    at_kept : {A : Type 0} (kept : Option (Vec ℤ A × ℤ)) → SplitsAt n settled above b.row kept → IsListed about base f h b.row
    at_kept None is = absurd is
    at_kept (Some (values, scale)) is = point_split n settled above b.row values.items scale e listed is

pub goes_on : (about : CaseSystem) (base : List Placed) (f : Scope) (h : ℕ) (rows kept : List Linear) (path : List Branch) → AreListed about base f h rows → IsEmptyPath (width_at about f) rows path → TakenOnce (rows_after rows path) kept → IsDerivedList about base f h kept
goes_on about base f h rows kept path listed is taken =
    handed_list (rows_after rows path) kept taken
    (path_listed (IsCoordinateSplit (width_at about f) (λ xs. ⊥)) (λ above b above_listed splits_at. splits_listed (width_at about f) (λ xs. ⊥) above b refl above_listed splits_at) rows path listed is)

unsplit_listed : (about : CaseSystem) (base : List Placed) (f : Scope) (h : ℕ) (rows : List Linear) → AreUnsplit about base f h rows → AreListed about base f h rows
unsplit_listed about base f h rows are r c = unsplit r (are r c)

-- what a refusal of `empty` shows
pub empty_refusal : (about : CaseSystem) (base : List Placed) (f : Scope) (h : ℕ) (rows : List Linear) (pivots splits : ℕ) (fault : CoverFault) → AreUnsplit about base f h rows → IsEmptyFault (width_at about f) rows pivots splits fault → IsRefusalOf about base h pivots (IsSpentOnRows about base h splits) fault
empty_refusal about base f h rows pivots splits (Splits path) are is = record { scope = f; rows = rows; ambient = are; is_path = is.0; spent = is.1 }
empty_refusal about base f h rows pivots splits (Solve kept fault) are is = (
  f,
  record {
    list = goes_on about base f h rows kept.items is.path (unsplit_listed about base f h rows are) is.is_path is.taken;
    unsolved = is.fault;
  },
)
empty_refusal about base f h rows pivots splits (faults.Wide column) are is = absurd is
empty_refusal about base f h rows pivots splits faults.Memory are is = tt

-- a row at which a cover splits, where it is one of a target or the denial of one
pub target_listed : {about : CaseSystem} {base : List Placed} {f : Scope} {h : ℕ} (row : Linear) → IsTargetSplit about base f h row → IsListed about base f h row
target_listed {about} {base} {f} {h} row is = elim is.2 [
  | inl same ↦ subst (λ r. IsListed about base f h r) (sym same) (unsplit is.0 (derived is.0 is.1))
  | inr opposed ↦ subst (λ r. IsListed about base f h r) (sym opposed.0) (unsplit (denial is.0) (derived (denial is.0) (made (denial is.0) (denied is.0 is.1) opposed.1)))
]

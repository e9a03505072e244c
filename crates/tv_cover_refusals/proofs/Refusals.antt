-- the rows that a cover solves and splits at are derived
use Rattle.std.proofs.Common.{◌≡◌, ◌⊎◌, inl, inr, ℕ, zero, suc, ◌≤◌, List, [], ◌∷◌, ◌++◌, length, refl, sym, subst, arith}
use Rattle.std.specs.Prelude.{Option, Some, None, Vec, ℤ, Ok}
use Rattle.std.specs.List.{Contains}
use Rattle.tv_linear.specs.Linear.{Linear}
use Rattle.tv_linear.specs.Arithmetic.{denial}
use Rattle.tv_cases.specs.LinearCases.{LinearCase, CaseSystem}
use Rattle.tv_farkas.specs.declared.branch.Branch.{Branch}
use Rattle.tv_farkas.specs.declared.fault.CoverFault.{CoverFault}
use Rattle.tv_farkas.specs.declared.fault.CoverFault.TheVariants.{Splits, Solve, Wide, Memory}
use Rattle.tv_farkas.specs.Paths.{rows_after}
use Rattle.tv_cover.specs.Targets.{IsInTarget, IsTargetRow, IsNarrowRow}
use Rattle.tv_cover.specs.CoverPaths.{IsSplit, SplitsBy}
use Rattle.tv_cover.specs.Covering.{IsCoverFault, IsRowOrDenial, IsOneMore}
use Rattle.tv_derived.specs.Scopes.{Scope, over_case, width_at, Placed}
use Rattle.tv_derived.specs.Derived.{IsDerived, IsListed, AreListed, AreDerived, AreUnsplit, denied, unsplit}
use Rattle.tv_derived.specs.Faults.{IsRefusalOf, number}
use Rattle.tv_derived.specs.CaseQuestions.{handed_rows, known_rows, IsAsked}
use Rattle.tv_derived.specs.Laws.{IsTargetSplit}
use Rattle.tv_derived.proofs.CaseMade.{known, put}
use Rattle.tv_derived.proofs.Listing.{one_of, one_more, handed_list, path_listed, point_split, target_listed}
use Rattle.tv_cover_refusals.specs.Covers.{IsSpentOnTargets, CoverRefusesCase}
use Rattle.std.proofs.lemmas.List.{append-nil}
use Rattle.tv_linear.proofs.ListLaws.{contains_at}

module _ (about : CaseSystem) (base : List Placed) (f : Scope) (h : ℕ) (lists : List (List Linear)) (into : (target : List Linear) → Contains lists target → AreDerived about base f h target) where
  target_split : (row q : Linear) → IsTargetRow lists q → (row ≡ q) ⊎ ((row ≡ denial q) × IsNarrowRow (denial q)) → IsTargetSplit about base f h row
  target_split row q of side = (q, into of.rows of.target q of.among, side)

  row_listed : (row : Linear) → IsRowOrDenial lists row → IsListed about base f h row
  row_listed row is = target_listed row (target_split row is.0 is.1 is.2)

  split_listed : (above : List Linear) (b : Branch) → AreListed about base f h above → IsSplit (width_at about f) lists above b → IsListed about base f h b.row
  split_listed above b listed is = at_kept b.point is.splits where
    at_kept : {A : Type 0} (kept : Option (Vec ℤ A × ℤ)) → SplitsBy (width_at about f) lists above b.row kept → IsListed about base f h b.row
    at_kept None is = target_listed b.row (target_split b.row is.at is.of_target (elim is.side [ inl opposed ↦ inr (opposed, is.narrow) | inr same ↦ inl same.0 ]))
    at_kept (Some (values, scale)) is = point_split (width_at about f) (IsInTarget lists) above b.row values.items scale refl listed is.split

  with_more_listed : (rows more : List Linear) → AreListed about base f h rows → IsOneMore lists more → AreListed about base f h (rows ++ more)
  with_more_listed rows more listed is = elim is [
    | inl none ↦ subst (λ m. AreListed about base f h (rows ++ m)) (sym none) (subst (λ r. AreListed about base f h r) (sym (append-nil rows)) listed)
    | inr one ↦ subst (λ m. AreListed about base f h (rows ++ m)) (sym one.2) (one_more rows one.0 listed (row_listed one.0 one.1))
  ]

  pub refusal : (many : ℕ) (rows : List Linear) (pivots splits : ℕ) (fault : CoverFault) → AreUnsplit about base f h rows → length lists ≤ many → IsCoverFault (width_at about f) lists rows pivots splits fault → IsRefusalOf about base h pivots (IsSpentOnTargets about base many h splits) fault
  refusal many rows pivots splits (Splits path) are bounded is = record {
    scope = f;
    rows = rows;
    targets = lists;
    question = record { ambient = are; into = into; are_few = bounded };
    is_path = is.0;
    spent = is.1;
  }
  refusal many rows pivots splits (Solve kept fault) are bounded is = (
    f,
    record {
      list = handed_list (rows_after rows is.path ++ is.more) kept.items is.taken
          (with_more_listed (rows_after rows is.path) is.more (path_listed (IsSplit (width_at about f) lists) split_listed rows is.path (λ r c. unsplit r (are r c)) is.is_path) is.is_more);
      unsolved = is.fault;
    },
  )
  refusal many rows pivots splits (Wide column) are bounded is =
      let at = is.wide.here in
      let target = contains_at lists is.wide.number is.wide.target is.wide.found in
      number f (denial at.row) (denied at.row (into is.wide.target target at.row (contains_at is.wide.target at.place at.row at.found))) at.wide.inside at.wide.wide
  refusal many rows pivots splits Memory are bounded is = tt

-- ---- the cover that shows that a case keeps a row

pub one_target : (about : CaseSystem) (base : List Placed) (f : Scope) (h : ℕ) (row : Linear) → IsDerived about base f h row → (target : List Linear) → Contains ((row ∷ []) ∷ []) target → AreDerived about base f h target
one_target about base f h row d target among r of =
    subst (λ x. IsDerived about base f h x) (one_of row r (subst (λ t. Contains t r) (only target among) of)) d where
      only : (t : List Linear) → Contains ((row ∷ []) ∷ []) t → t ≡ row ∷ []
      only t (zero, l, e) = sym e
      only t (suc k, l, e) = absurd (omega arith)

pub case_refusal : (about : CaseSystem) (c : LinearCase) (rows : List Linear) (owed : Linear) → IsAsked about c owed → CoverRefusesCase about c rows owed
case_refusal about c rows owed asked row pivots splits fault g is =
    refusal about (handed_rows c rows owed) (over_case c) 1 ((row ∷ []) ∷ []) (one_target about (handed_rows c rows owed) (over_case c) 1 row (put about c rows owed asked (Ok row) g)) 1 (known_rows c rows) pivots splits fault
    (known about c rows owed asked 1) (omega arith) is

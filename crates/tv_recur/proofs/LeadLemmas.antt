-- Whether a case leads from rows into rows.
use Rattle.std.proofs.Common.{◌≡◌, ℕ, ◌^◌, ◌<◌, List, [], ◌∷◌, All, sym, ◌∙◌, subst, ℤ}
use Rattle.std.proofs.lemmas.List.{length-map}
use Rattle.std.proofs.lemmas.List.Elements.{All-append}
use Rattle.tv_linear.specs.Linear.{Linear, columns, IsNarrow}
use Rattle.tv_linear.specs.Arithmetic.{constant_row}
use Rattle.tv_linear.specs.declared.cover.CoverTree.{CoverTree}
use Rattle.tv_linear.specs.declared.choice.ChoiceTree.{ChoiceTree}
use Rattle.tv_cases.specs.LinearCases.{LinearCase}
use Rattle.tv_cases.specs.Systems.{cases_of}
use Rattle.tv_cases.specs.Views.{case_view}
use Rattle.tv_cases.specs.Before.{rows_before}
use Rattle.tv_cover.specs.Covering.{IsHole}
use Rattle.tv_cover.specs.Single.{IsCoverInto}
use Rattle.tv_points.specs.PointRows.{number_rows}
use Rattle.tv_recur.specs.Making.{rows_put, drawn_terms}
use Rattle.tv_recur.specs.OwedRows.{AreOwed, IsLeft, IsTaking}
use Rattle.tv_recur.specs.Choosing.{IsChoiceOf, LeadsInto}
use Rattle.tv_recur.specs.Covering.{IsTakenBy}
use Rattle.tv_recur.specs.declared.taking.Taking.{Taking}
use Rattle.tv_recur.proofs.ChoiceLemmas.{leads_into}
use Rattle.tv_points.proofs.TakeLemmas.{numbers_wide}
use Rattle.tv_recur.proofs.DrawLemmas.{all_put_wide}
use Rattle.tv_recur.proofs.OwedLemmas.{owed_same, left_at}
use Rattle.tv_recur.proofs.ReadLemmas.{taking_case}

-- the rows that are owed are over the variables
pub owed_wide : (n m : ℕ) (c : LinearCase) (ds : List ℤ) (into made : List Linear) → m ≡ n → AreOwed n c ds into made → All (λ r. columns r ≡ m) made
owed_wide n m c ds into made e owed =
    subst (λ k. All (λ r. columns r ≡ k) made) (sym e) (subst (All (λ r. columns r ≡ n)) (sym owed.exact)
    (All-append (λ r. columns r ≡ n) (rows_put (drawn_terms n ds) c.guards) (rows_put (drawn_terms n ds) (rows_before c into)) (all_put_wide n ds c.guards) (all_put_wide n ds (rows_before c into))))

module _ (t : Taking) (taking : IsTaking t) (m : ℕ) (over : m ≡ (cases_of t.about.now).variables) (from into target : List Linear) (even : All (λ r. columns r ≡ m) into) (owed : AreOwed (cases_of t.about.now).variables (case_view t.case.now) t.draws.now into target) where
  abbrev n : ℕ
  n = (cases_of t.about.now).variables

  abbrev case : LinearCase
  case = case_view t.case.now

  wide : All (λ r. columns r ≡ n) into
  wide = subst (λ k. All (λ r. columns r ≡ k) into) over even

  pub lead_by : (old : CoverTree) (new : ChoiceTree) → t.number < 2 ^ 32 → t.place < 2 ^ 32 → IsCoverInto m from target old → IsTakenBy t old new → LeadsInto (cases_of t.about.now) case t.place from into new
  lead_by old new small near h by =
      leads_into (cases_of t.about.now) case t.number t.place (number_rows n t.draws.now) into target from old new
      taking.found
      (length-map t.draws.now (λ d. constant_row n d) ∙ taking.counted)
      (owed_same n case t.draws.now into target taking.counted (taking_case t taking).guards (taking_case t taking).terms wide owed)
      (numbers_wide n t.draws.now)
      (subst (All IsNarrow) by.numbers by.narrow)
      small near
      (subst (λ k. IsCoverInto k from target old) over h)
      (subst (λ ds. IsChoiceOf t.number t.place ds old new) by.numbers by.same)

  pub left_by : (xs : List ℤ) → IsHole m (target ∷ []) from xs → IsLeft m case t.draws.now from into
  left_by xs hole = subst (λ k. IsLeft k case t.draws.now from into) (sym over) (left_at n case t.draws.now from into target xs taking.counted wide owed (subst (λ k. IsHole k (target ∷ []) from xs) over hole))

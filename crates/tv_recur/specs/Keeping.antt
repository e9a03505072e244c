-- Loops whose guards hold again, and ways to come to them.
use Rattle.std.specs.Prelude.{◌≡◌, ◌≢◌, ℕ, ◌+◌, ◌<◌, List, ◌++◌, All, ℤ, slice_get, Some}
use Rattle.tv_linear.specs.Linear.{Linear, columns}
use Rattle.tv_linear.specs.declared.choice.ChoiceTree.{ChoiceTree}
use Rattle.tv_farkas.specs.Paths.{IsWholePoint}
use Rattle.tv_farkas.specs.EmptyPaths.{IsWholePointOf}
use Rattle.tv_farkas.specs.Refuting.{AreShort}
use Rattle.tv_cases.specs.LinearCases.{LinearCase, CaseSystem}
use Rattle.tv_cases.specs.Views.{case_view}
use Rattle.tv_cases.specs.Before.{FitsBefore, rows_before}
use Rattle.tv_known.specs.Recurrences.{IsKeptLoop, IsEntered}
use Rattle.tv_recur.specs.Choosing.{LeadsInto}
use Rattle.tv_recur.specs.declared.entering.Entry.{Entry}
use Rattle.tv_recur.specs.declared.entering.Stem.{Stem}

-- the case leads without draws from its guards into them again, by the choice
pub record IsKeptBy (about : CaseSystem) (c : LinearCase) (tree : ChoiceTree) : Type 0 where
  pub loop : c.from ≡ c.to
  pub no_draws : c.draws ≡ 0
  pub leads : LeadsInto about c 0 c.guards c.guards tree

-- the rows that are met where the case is taken and leads to where these rows are met
abbrev pub entering_rows : LinearCase → List Linear → List Linear
entering_rows c into = c.guards ++ rows_before c into

-- so they are, and those before the case fit
pub record AreEntering (c : LinearCase) (into made : List Linear) : Type 0 where
  pub exact : made ≡ entering_rows c into
  pub fits : All (FitsBefore c) into

-- values and draws by which a case leads from the start to where the guards of the loop are met
pub record IsEntry (about : CaseSystem) (kept : LinearCase) (e : Entry) : Type 0 where
  pub case : LinearCase
  pub found : slice_get about.cases e.number ≡ Some case
  pub starts : case.from ≡ about.start
  pub leads : case.to ≡ kept.from
  pub rows : AreEntering case kept.guards e.rows.items
  pub point : IsWholePoint (about.variables + case.draws) e.rows.items e.point.items
  pub first : IsWholePointOf (about.variables + case.draws) e.rows.items e.point.items
  pub short : AreShort e.point.items

-- the choice takes a case from the start into the guards of the loop
pub record IsStem (about : CaseSystem) (kept : LinearCase) (s : Stem) : Type 0 where
  pub starts : s.case.now.from ≡ about.start
  pub ends : s.case.now.to ≡ kept.from
  pub away : kept.from ≢ about.start
  pub even : All (λ r. columns r ≡ about.variables) s.rows.now
  pub leads : LeadsInto about (case_view s.case.now) 0 s.rows.now kept.guards s.choice

-- no step by the case of the number leads from an initial state to where the loop can be taken
abbrev pub NoEntryAt : CaseSystem → LinearCase → ℕ → Type 0
NoEntryAt about kept k =
    (c : LinearCase) → slice_get about.cases k ≡ Some c → c.from ≡ about.start → c.to ≡ kept.from → (xs : List ℤ) →
    IsWholePoint (about.variables + c.draws) (entering_rows c kept.guards) xs → ⊥

-- the case of the number is no kept loop that is entered at once
abbrev pub NoLoopAt : CaseSystem → ℕ → Type 0
NoLoopAt about k = (c : LinearCase) → slice_get about.cases k ≡ Some c → IsKeptLoop about c → IsEntered about c → ⊥

-- so it is with each of the first `k` cases
abbrev pub NoEntryBelow : CaseSystem → LinearCase → ℕ → Type 0
NoEntryBelow about kept k = (j : ℕ) → j < k → NoEntryAt about kept j

abbrev pub NoLoopBelow : CaseSystem → ℕ → Type 0
NoLoopBelow about k = (j : ℕ) → j < k → NoLoopAt about j

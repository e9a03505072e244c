-- What a refusal of a cover over derived rows shows.
use Rattle.std.specs.Prelude.{ℕ, ◌≤◌, List, [], ◌∷◌, length, Contains, Ok}
use Rattle.tv_linear.specs.Linear.{Linear}
use Rattle.tv_cases.specs.LinearCases.{LinearCase, CaseSystem}
use Rattle.tv_cases.specs.Before.{GivesBefore}
use Rattle.tv_farkas.specs.declared.branch.Branch.{Branch}
use Rattle.tv_farkas.specs.declared.fault.CoverFault.{CoverFault}
use Rattle.tv_cover.specs.CoverPaths.{IsCoverPath}
use Rattle.tv_cover.specs.Covering.{IsCoverFault}
use Rattle.tv_derived.specs.Scopes.{Scope, over_case, width_at, Placed}
use Rattle.tv_derived.specs.Derived.{AreDerived, AreUnsplit}
use Rattle.tv_derived.specs.Faults.{IsRefusalOf}
use Rattle.tv_derived.specs.Questions.{IsSpentOnCover}
use Rattle.tv_derived.specs.CaseQuestions.{handed_rows, known_rows}

-- a path that has spent `splits` splits on a cover of at most `many` targets
abbrev pub IsSpentOnTargets : CaseSystem → List Placed → ℕ → ℕ → ℕ → List Branch → Type 0
IsSpentOnTargets about base many h splits path = IsSpentOnCover about base (λ k. k ≤ many) h splits IsCoverPath path

-- a refusal of a cover over derived rows is one of a layer that asks of at most `many` targets
abbrev pub CoverRefuses : CaseSystem → List Placed → Scope → ℕ → Type 0
CoverRefuses about base f h =
    (many : ℕ) (lists : List (List Linear)) (rows : List Linear) (pivots splits : ℕ) (fault : CoverFault) → AreUnsplit about base f h rows
    → ((target : List Linear) → Contains lists target → AreDerived about base f h target) → length lists ≤ many
    → IsCoverFault (width_at about f) lists rows pivots splits fault
    → IsRefusalOf about base h pivots (IsSpentOnTargets about base many h splits) fault

-- so a refusal of the cover that shows that a case keeps a row is one of a layer with one case on the way and one target
abbrev pub CoverRefusesCase : CaseSystem → LinearCase → List Linear → Linear → Type 0
CoverRefusesCase about c rows owed =
    (row : Linear) (pivots splits : ℕ) (fault : CoverFault) → GivesBefore owed c (Ok row)
    → IsCoverFault (width_at about (over_case c)) ((row ∷ []) ∷ []) (known_rows c rows) pivots splits fault
    → IsRefusalOf about (handed_rows c rows owed) 1 pivots (IsSpentOnTargets about (handed_rows c rows owed) 1 1 splits) fault

-- What a refusal of a choice over derived rows shows.
use Rattle.std.specs.Prelude.{ℕ, suc, ◌≤◌, List, All, Bool}
use Rattle.tv_linear.specs.Linear.{Linear}
use Rattle.tv_linear.specs.declared.region.Piece.{Piece}
use Rattle.tv_cases.specs.LinearCases.{CaseSystem}
use Rattle.tv_farkas.specs.declared.branch.Branch.{Branch}
use Rattle.tv_farkas.specs.declared.fault.CoverFault.{CoverFault}
use Rattle.tv_cover.specs.Targets.{AreEven}
use Rattle.tv_choice.specs.Leading.{Query, piece_rows}
use Rattle.tv_choice.specs.Refusals.{IsJoinedPath, IsChoiceFault}
use Rattle.tv_derived.specs.Scopes.{Placed, at_location}
use Rattle.tv_derived.specs.Derived.{AreUnsplit}
use Rattle.tv_derived.specs.Regions.{ArePiecesDerived, count_at}
use Rattle.tv_derived.specs.Faults.{IsRefusalOf}
use Rattle.tv_derived.specs.Questions.{IsSpentOnChoice}

abbrev pub asked_of : CaseSystem → ℕ → Bool → List Piece → Query
asked_of about l stop pieces = record { system = about; location = l; stop = stop; pieces = pieces }

-- A path that has spent `splits` splits on a choice into at most `many` pieces at each location. `stop` says whether a state without a step
-- may stop.
abbrev pub IsSpentOnSteps : CaseSystem → List Placed → ℕ → Bool → ℕ → ℕ → List Branch → Type 0
IsSpentOnSteps about base many stop h splits path =
    IsSpentOnChoice about base (λ k. k ≤ many) h splits (λ l pieces rows p. IsJoinedPath about.variables (asked_of about l stop pieces) rows p) path

-- The rows of the piece are derived or fix variables, the rows of the pieces that are led into are derived with one case less on the way,
-- and there are at most `many` of these at each location; all are over the variables.
pub record IsHanded (about : CaseSystem) (base : List Placed) (many h l : ℕ) (rows : List Linear) (pieces : List Piece) : Type 0 where
  pub ambient : AreUnsplit about base (at_location l) (suc h) rows
  pub into : ArePiecesDerived about base h pieces
  pub are_few : (k : ℕ) → count_at k pieces ≤ many
  pub even : All (λ p. AreEven about.variables (piece_rows p)) pieces

-- then a refusal is one of a layer that asks of such choices, with one case more on the way
abbrev pub ChoiceRefuses : CaseSystem → List Placed → ℕ → ℕ → ℕ → Bool → List Linear → List Piece → Type 0
ChoiceRefuses about base many h l stop rows pieces =
    (pivots splits : ℕ) (fault : CoverFault) → IsHanded about base many h l rows pieces
    → IsChoiceFault about.variables (asked_of about l stop pieces) rows pivots splits fault
    → IsRefusalOf about base (suc h) pivots (IsSpentOnSteps about base many stop (suc h) splits) fault

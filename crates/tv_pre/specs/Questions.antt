-- What is asked of the pieces of a node, and what a refusal shows.
use Rattle.std.specs.Prelude.{◌≡◌, ℕ, ◌+◌, List, ◌++◌, map, Contains, Bool, true, false, Err}
use Rattle.tv_formula.specs.declared.tree.Path.{Path}
use Rattle.tv_formula.specs.declared.tree.Path.TheVariants.{Every, Any}
use Rattle.tv_linear.specs.Linear.{Linear}
use Rattle.tv_linear.specs.declared.fault.RowFault.TheVariants as row
use Rattle.tv_linear.specs.declared.region.Piece.{Piece}
use Rattle.tv_linear.specs.declared.region.Region.{Region}
use Rattle.tv_linear.specs.Arithmetic.{padded_row}
use Rattle.tv_cases.specs.Before.{GivesBefore, rows_before}
use Rattle.tv_cases.specs.LinearCases.{LinearCase, CaseSystem}
use Rattle.tv_farkas.specs.declared.budget.Budget.{Budget}
use Rattle.tv_farkas.specs.declared.fault.CoverFault.{CoverFault}
use Rattle.tv_farkas.specs.declared.fault.CoverFault.TheVariants.{Splits, Solve, Wide, Memory}
use Rattle.tv_cover.specs.Covering.{IsCoverFault}
use Rattle.tv_choice.specs.Leading.{Query, piece_rows}
use Rattle.tv_choice.specs.Refusals.{IsChoiceFault}
use Rattle.tv_region.specs.Regions.{lists_at}

pub data Question : Type 0 where
  -- whether each state of the piece is in one of the pieces
  lies : Piece → List Piece → Question
  -- whether each step by the case from the piece leads into one of the pieces
  steps : Piece → LinearCase → List Piece → Question
  -- whether from each state of the piece some step leads into one of the pieces, or, where it may stop, none leads anywhere
  chooses : Piece → Bool → List Piece → Question

-- the rows that are met where a case is taken from a piece: its rows over the variables and the draws, and then the guards
abbrev pub step_rows : LinearCase → List Linear → List Linear
step_rows c rows = map (padded_row c.draws) rows ++ c.guards

-- a row of one of the lists is too wide before the case at this column
pub record IsTooWide (c : LinearCase) (lists : List (List Linear)) (column : ℕ) : Type 0 where
  pub rows : List Linear
  pub target : Contains lists rows
  pub at : Linear
  pub among : Contains rows at
  pub wide : GivesBefore at c (Err (row.Wide column))

-- a row of the pieces where the case leads is too wide before it, or the cover of the rows that are met where it is taken by those of
-- the pieces before it has the fault
pub data IsStepFault (about : CaseSystem) (budget : Budget) (q : Piece) (c : LinearCase) (into : List Piece) : CoverFault → Type 0 where
  too_wide : (column : ℕ) → IsTooWide c (lists_at c.to into) column → IsStepFault about budget q c into (Wide column)
  uncovered : (fault : CoverFault) →
      IsCoverFault (about.variables + c.draws) (map (rows_before c) (lists_at c.to into)) (step_rows c (piece_rows q)) budget.pivots budget.splits fault →
      IsStepFault about budget q c into fault

abbrev pub query_of : CaseSystem → Piece → Bool → List Piece → Query
query_of about q stop into = record { system = about; location = q.location; stop = stop; pieces = into }

-- what a refused question shows
abbrev pub Refuses : CaseSystem → Budget → Question → CoverFault → Type 0
Refuses about budget (lies q into) fault = IsCoverFault about.variables (lists_at q.location into) (piece_rows q) budget.pivots budget.splits fault
Refuses about budget (steps q c into) fault = IsStepFault about budget q c into fault
Refuses about budget (chooses q stop into) fault =
    IsChoiceFault about.variables (query_of about q stop into) (piece_rows q) budget.pivots budget.splits fault

-- one of these questions is refused so
pub record IsRefused (about : CaseSystem) (budget : Budget) (asks : Question → Type 0) (fault : CoverFault) : Type 0 where
  pub question : Question
  pub asked : asks question
  pub refuses : Refuses about budget question fault

-- a refusal is of one of these questions, or there is no memory
abbrev pub IsRefusal : CaseSystem → Budget → (Question → Type 0) → CoverFault → Type 0
IsRefusal about budget asks (Splits path) = IsRefused about budget asks (Splits path)
IsRefusal about budget asks (Solve kept fault) = IsRefused about budget asks (Solve kept fault)
IsRefusal about budget asks (Wide column) = IsRefused about budget asks (Wide column)
IsRefusal about budget asks Memory = Unit {0}

-- of each case from the location of the piece whether its steps lead into the pieces
abbrev pub AsksSteps : CaseSystem → Piece → List Piece → Question → Type 0
AsksSteps about q into a = (c : LinearCase) × Contains about.cases c × (c.from ≡ q.location) × (a ≡ steps q c into)

-- a question of one of the pieces
abbrev pub AsksOf : (Piece → Question → Type 0) → List Piece → Question → Type 0
AsksOf asks qs a = (q : Piece) × Contains qs q × asks q a

-- whether the piece lies in each of the regions
abbrev pub AsksEach : Piece → List Region → Question → Type 0
AsksEach q regions a = (r : Region) × Contains regions r × (a ≡ lies q r.pieces.items)

-- whether each step from the piece leads into the pieces, or some step
abbrev pub AsksNext : CaseSystem → Path → Piece → List Piece → Question → Type 0
AsksNext about Every q into a = AsksSteps about q into a
AsksNext about Any q into a = a ≡ chooses q false into

-- whether each step from the piece leads into the pieces, or some step, or none leads anywhere
abbrev pub AsksStay : CaseSystem → Path → Piece → List Piece → Question → Type 0
AsksStay about Every q into a = AsksSteps about q into a
AsksStay about Any q into a = a ≡ chooses q true into

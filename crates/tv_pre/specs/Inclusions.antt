-- What the states of pieces have: they are in a set, or their steps lead into it.
use Rattle.std.specs.Prelude.{◌⊎◌, List, ℤ, Bool, IsTrue}
use Rattle.tv_program.specs.Steps.{State}
use Rattle.tv_formula.specs.declared.tree.Path.{Path}
use Rattle.tv_formula.specs.declared.tree.Path.TheVariants.{Every, Any}
use Rattle.tv_linear.specs.declared.region.Piece.{Piece}
use Rattle.tv_cases.specs.LinearCases.{CaseSystem, CaseSteps}
use Rattle.tv_farkas.specs.Paths.{IsWholePoint}
use Rattle.tv_known.specs.Cycles.{IsStateOf}
use Rattle.tv_known.specs.Rounds.{Stops}
use Rattle.tv_choice.specs.Leading.{piece_rows, state}
use Rattle.tv_pre.specs.Pieces.{InPieces}

-- each state of the piece is in the set
abbrev pub OfPiece : CaseSystem → Piece → (State → Type 0) → Type 0
OfPiece about q set = (xs : List ℤ) → IsWholePoint about.variables (piece_rows q) xs → set (state q.location xs)

-- each state of the pieces is
abbrev pub OfPieces : CaseSystem → List Piece → (State → Type 0) → Type 0
OfPieces about qs set = (s : State) → IsStateOf about s → InPieces qs s → set s

-- each step from the state leads into the set, or some step does
abbrev pub LeadsTo : CaseSystem → Path → (State → Type 0) → State → Type 0
LeadsTo about Every set s = (t : State) → CaseSteps about s t → set t
LeadsTo about Any set s = (t : State) × CaseSteps about s t × set t

-- some step leads from the state into the pieces, or, where it may stop, none leads anywhere
abbrev pub Chooses : CaseSystem → Bool → List Piece → State → Type 0
Chooses about stop into s = LeadsTo about Any (InPieces into) s ⊎ (IsTrue stop × Stops about s)

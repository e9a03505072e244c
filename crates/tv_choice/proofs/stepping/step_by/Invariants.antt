use Rattle.std.proofs.Common.{◌-◌, ℕ, ◌<◌, ◌≡◌, length}
use Rattle.std.specs.Prelude.{slice_get, Some}
use Rattle.tv_linear.specs.declared.region.Piece.{Piece}
use Rattle.tv_cases.specs.Views.{case_view}
use Rattle.tv_choice.specs.Leading.{pieces_at}
use Rattle.tv_choice.specs.Stepping.{NoStepTo}
use Rattle.tv_choice.proofs.stepping.step_by.Given as goal

abbrev pub invariant-pieces : goal.invariant-pieces
invariant-pieces l = (j : ℕ) (p : Piece) → j < l.target → slice_get (pieces_at l.question.pieces.now l.case.to) j ≡ Some p → NoStepTo l.question.columns l.standing.point.now (case_view l.case) p

abbrev pub decreases-pieces : goal.decreases-pieces
decreases-pieces l = length (pieces_at l.question.pieces.now l.case.to) - l.target

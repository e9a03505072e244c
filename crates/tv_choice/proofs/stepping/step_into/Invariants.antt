use Rattle.std.proofs.Common.{◌≡◌, take}
use Rattle.tv_linear.specs.declared.region.Piece.{Piece}
use Rattle.tv_cases.specs.LinearCases.{LinearCase}
use Rattle.tv_cases.specs.Views.{case_views}
use Rattle.std.specs.Prelude.{Contains}
use Rattle.tv_choice.specs.Leading.{pieces_at}
use Rattle.tv_choice.specs.Stepping.{NoStepTo}
use Rattle.tv_choice.proofs.stepping.step_into.Given as goal

abbrev pub invariant-cases : goal.invariant-cases
invariant-cases l = (c : LinearCase) → Contains (take l.taken (case_views l.cases)) c → c.from ≡ l.question.location → (p : Piece) → Contains (pieces_at l.question.pieces.now c.to) p → NoStepTo l.question.columns l.standing.point.now c p

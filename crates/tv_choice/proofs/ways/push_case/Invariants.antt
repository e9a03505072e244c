use Rattle.std.proofs.Common.{◌≡◌, ◌-◌, ◌++◌, length, drop, All, []}
use Rattle.tv_cases.specs.Views.{case_view}
use Rattle.tv_choice.specs.Asked.{query_of}
use Rattle.tv_choice.specs.Leading.{pieces_at}
use Rattle.tv_choice.specs.Targets.{targets_by}
use Rattle.tv_choice.specs.Ways.{lists_of, IsWay}
use Rattle.tv_choice.proofs.DrawLemmas.{ArePiecesLeft}
use Rattle.tv_choice.proofs.ways.push_case.Given as goal

abbrev pub invariant-pieces : goal.invariant-pieces
invariant-pieces l =
    All (IsWay l.question.columns (query_of l.question) []) l.ways.items
    × (lists_of l.initial.ways.items ++ targets_by l.question.columns (case_view l.case) (pieces_at l.question.pieces.now l.case.to) ≡ lists_of l.ways.items ++ targets_by l.question.columns (case_view l.case) (drop l.target (pieces_at l.question.pieces.now l.case.to)))
    × ArePiecesLeft l.question.columns (case_view l.case) (pieces_at l.question.pieces.now l.case.to) (drop l.target (pieces_at l.question.pieces.now l.case.to))

abbrev pub decreases-pieces : goal.decreases-pieces
decreases-pieces l = length (pieces_at l.question.pieces.now l.case.to) - l.target

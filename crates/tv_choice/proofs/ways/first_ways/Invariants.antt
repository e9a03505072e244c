use Rattle.std.proofs.Common.{◌≡◌, ◌++◌, drop, All, []}
use Rattle.tv_cases.specs.LinearCases.{leaving}
use Rattle.tv_cases.specs.Views.{case_views}
use Rattle.tv_choice.specs.Asked.{query_of}
use Rattle.tv_choice.specs.Targets.{targets_from}
use Rattle.tv_choice.specs.Ways.{lists_of, IsWay}
use Rattle.tv_choice.proofs.DrawLemmas.{AreCasesLeft}
use Rattle.tv_choice.proofs.ways.first_ways.Given as goal

abbrev pub invariant-cases : goal.invariant-cases
invariant-cases l =
    All (IsWay l.question.columns (query_of l.question) []) l.ways.items
    × (targets_from l.question.columns l.question.pieces.now (leaving l.question.location (case_views l.cases)) ≡ lists_of l.ways.items ++ targets_from l.question.columns l.question.pieces.now (leaving l.question.location (case_views (drop l.taken l.cases))))
    × AreCasesLeft l.question.columns l.question.pieces.now (leaving l.question.location (case_views l.cases)) (leaving l.question.location (case_views (drop l.taken l.cases)))

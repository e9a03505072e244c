use Rattle.std.proofs.Common.{take}
use Rattle.tv_cases.specs.Views.{case_view}
use Rattle.tv_cover.specs.Targets.{lists_of}
use Rattle.tv_region.specs.Regions.{lists_at}
use Rattle.tv_pre.specs.Targets.{AreBefore}
use Rattle.tv_pre.proofs.targets.targets_before.Given as goal

abbrev pub invariant-pieces : goal.invariant-pieces
invariant-pieces l = AreBefore (case_view l.case) (lists_at l.case.to (take l.piece-index l.pieces)) (lists_of l.targets.items)

use Rattle.std.proofs.Common.{◌≡◌, ◌++◌, take}
use Rattle.tv_cover.specs.Targets.{lists_of}
use Rattle.tv_region.specs.Regions.{lists_at}
use Rattle.tv_pre.proofs.targets.push_targets.Given as goal

abbrev pub invariant-pieces : goal.invariant-pieces
invariant-pieces l = lists_of l.targets.items ≡ lists_of l.fn.targets.items ++ lists_at l.location (take l.piece-index l.pieces)

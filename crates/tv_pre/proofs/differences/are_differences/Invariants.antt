use Rattle.std.proofs.Common.{All, take}
use Rattle.tv_region.specs.Differences.{IsDifference}
use Rattle.tv_pre.proofs.differences.are_differences.Given as goal

abbrev pub invariant-rows : goal.invariant-rows
invariant-rows l = All IsDifference (take l.row-index l.rows)

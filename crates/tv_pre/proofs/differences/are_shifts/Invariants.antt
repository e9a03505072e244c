use Rattle.std.proofs.Common.{All, take}
use Rattle.tv_region.specs.Differences.{IsShift}
use Rattle.tv_pre.proofs.differences.are_shifts.Given as goal

abbrev pub invariant-updates : goal.invariant-updates
invariant-updates l = All (λ u. IsShift u.term) (take l.update-index l.updates)

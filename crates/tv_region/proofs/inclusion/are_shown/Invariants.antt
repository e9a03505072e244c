use Rattle.std.proofs.Common.{take}
use Rattle.tv_region.specs.Inclusion.{LiesInside}
use Rattle.tv_region.proofs.inclusion.are_shown.Given as goal

abbrev pub invariant-outer : goal.invariant-outer
invariant-outer l = LiesInside l.limits.columns l.rows (take l.row-index l.outer)

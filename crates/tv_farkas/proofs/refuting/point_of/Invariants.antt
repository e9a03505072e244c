use Rattle.std.proofs.Common.{◌≡◌, map, take, neg_ℤ}
use Rattle.tv_farkas.proofs.refuting.point_of.Given as goal

abbrev pub invariant-columns : goal.invariant-columns
invariant-columns l = l.values.items ≡ map neg_ℤ (take l.column l.y)

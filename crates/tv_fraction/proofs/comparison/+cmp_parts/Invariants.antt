use Rattle.std.proofs.Common.{◌+◌}
use Rattle.tv_fraction.proofs.comparison.+cmp_parts.Given as goal

abbrev pub decreases-cmp_parts : goal.decreases-cmp_parts
decreases-cmp_parts l = l.b + l.d

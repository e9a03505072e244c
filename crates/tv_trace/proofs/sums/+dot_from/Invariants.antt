use Rattle.std.proofs.Common.{length}
use Rattle.tv_trace.proofs.sums.+dot_from.Given as goal

abbrev pub decreases-dot_from : goal.decreases-dot_from
decreases-dot_from l = length l.coefficients.now

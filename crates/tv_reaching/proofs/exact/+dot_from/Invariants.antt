use Rattle.std.proofs.Common.{length}
use Rattle.tv_reaching.proofs.exact.+dot_from.Given as goal

abbrev pub decreases-dot_from : goal.decreases-dot_from
decreases-dot_from l = length l.factors.now

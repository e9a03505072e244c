use Rattle.std.proofs.Common.{length}
use Rattle.tv_pre.proofs.equality.+lists_are_equal.Given as goal

abbrev pub decreases-lists_are_equal : goal.decreases-lists_are_equal
decreases-lists_are_equal l = length l.first.now

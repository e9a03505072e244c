use Rattle.std.proofs.Common.{length}
use Rattle.tv_invariant.proofs.thinning.+some_is_multiplied.Given as goal

abbrev pub decreases-some_is_multiplied : goal.decreases-some_is_multiplied
decreases-some_is_multiplied l = length l.lists.now

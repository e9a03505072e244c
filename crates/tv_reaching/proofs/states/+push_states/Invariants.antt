use Rattle.std.proofs.Common.{length}
use Rattle.tv_reaching.proofs.states.+push_states.Given as goal

abbrev pub decreases-push_states : goal.decreases-push_states
decreases-push_states l = length l.path.now

use Rattle.std.proofs.Common.{length}
use Rattle.tv_search.proofs.reaching.+push_draws.Given as goal

abbrev pub decreases-push_draws : goal.decreases-push_draws
decreases-push_draws l = length l.numbers.now

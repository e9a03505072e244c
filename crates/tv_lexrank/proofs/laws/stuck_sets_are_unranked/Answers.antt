use Rattle.tv_lexrank.proofs.NotStuck.{stuck_unranked}
use Rattle.tv_lexrank.proofs.laws.stuck_sets_are_unranked.Goals as goal

pub returns : goal.returns
returns c about known set barriers = stuck_unranked about known set barriers

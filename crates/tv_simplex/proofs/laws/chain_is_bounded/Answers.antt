use Rattle.tv_simplex.proofs.Bounded.{bounded}
use Rattle.tv_simplex.proofs.laws.chain_is_bounded.Goals as goal

pub returns : goal.returns
returns c = bounded

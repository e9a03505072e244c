use Rattle.tv_simplex.proofs.Once.{one_chain}
use Rattle.tv_simplex.proofs.laws.one_chain.Goals as goal

pub returns : goal.returns
returns c = one_chain

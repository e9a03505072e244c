use Rattle.tv_simplex.proofs.Chains.{none_twice}
use Rattle.tv_simplex.proofs.laws.none_comes_twice.Goals as goal

pub returns : goal.returns
returns c = none_twice

use Rattle.tv_simplex.proofs.Faults.{fewer}
use Rattle.tv_simplex.proofs.laws.unsettled_are_fewer.Goals as goal

pub returns : goal.returns
returns c = fewer

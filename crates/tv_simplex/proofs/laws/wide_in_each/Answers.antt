use Rattle.tv_simplex.proofs.Faults.{wide_any}
use Rattle.tv_simplex.proofs.laws.wide_in_each.Goals as goal

pub returns : goal.returns
returns c = wide_any

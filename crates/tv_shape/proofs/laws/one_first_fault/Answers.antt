use Rattle.tv_shape.proofs.FaultLemmas.{one_first}
use Rattle.tv_shape.proofs.laws.one_first_fault.Goals as goal

pub returns : goal.returns
returns c = one_first

use Rattle.tv_shape.proofs.FaultLemmas.{unfit}
use Rattle.tv_shape.proofs.laws.faulty_is_unfit.Goals as goal

pub returns : goal.returns
returns c = unfit

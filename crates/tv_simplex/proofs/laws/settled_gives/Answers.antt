use Rattle.tv_simplex.proofs.Settled.{settled}
use Rattle.tv_simplex.proofs.laws.settled_gives.Goals as goal

pub returns : goal.returns
returns c = λ a m n s b bs h x k. settled a m n s b bs h x k

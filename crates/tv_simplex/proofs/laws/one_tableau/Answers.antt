use Rattle.tv_simplex.proofs.Unique.{same_tableau}
use Rattle.tv_simplex.proofs.laws.one_tableau.Goals as goal

pub returns : goal.returns
returns c = same_tableau

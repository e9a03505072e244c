use Rattle.tv_shape.proofs.FitLemmas.{nodes_fit}
use Rattle.tv_shape.proofs.laws.right_nodes_fit.Goals as goal

pub returns : goal.returns
returns c = nodes_fit

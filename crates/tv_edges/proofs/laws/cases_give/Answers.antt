use Rattle.tv_edges.proofs.EdgeLemmas.{case-gives}
use Rattle.tv_edges.proofs.laws.cases_give.Goals as goal

pub returns : goal.returns
returns c = case-gives

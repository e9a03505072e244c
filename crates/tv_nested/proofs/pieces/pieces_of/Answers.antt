use Rattle.tv_nested.proofs.PieceLemmas.{node_more}
use Rattle.tv_nested.proofs.pieces.pieces_of.Goals as goal

pub locations-preserved : goal.locations-preserved
locations-preserved c = node_more c.args.ranking.now c.locations.location c.locations.pieces.items _ c.locations.invariant c.in-Ok.ensures.pieces

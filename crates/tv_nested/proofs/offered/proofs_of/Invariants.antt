use Rattle.tv_nested.specs.NodePieces.{node_pieces}
use Rattle.tv_nested.specs.NodeProofs.{Offer}
use Rattle.tv_nested.proofs.offered.proofs_of.Given as goal

abbrev pub invariant-locations : goal.invariant-locations
invariant-locations l = Offer l.ranking (node_pieces l.ranking l.location) l.proofs.items

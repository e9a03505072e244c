use Rattle.std.proofs.Common.{◌≡◌}
use Rattle.tv_nested.specs.NodePieces.{node_pieces}
use Rattle.tv_nested.proofs.pieces.pieces_of.Given as goal

abbrev pub invariant-locations : goal.invariant-locations
invariant-locations l = l.pieces.items ≡ node_pieces l.ranking l.location

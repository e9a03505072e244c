use Rattle.std.proofs.Common.{map}
use Rattle.tv_nested.specs.NodePieces.{piece_with}
use Rattle.tv_nested.specs.NodeProofs.{AreOffered}
use Rattle.tv_nested.specs.Ranks.{signs_at}
use Rattle.tv_nested.specs.Signs.{first_pieces}
use Rattle.tv_nested.proofs.offered.push_proofs.Given as goal

abbrev pub invariant-pieces : goal.invariant-pieces
invariant-pieces l = AreOffered l.ranking (map (piece_with l.ranking l.location) (first_pieces (signs_at l.ranking l.location) l.piece)) l.fn.proofs.items l.proofs.items

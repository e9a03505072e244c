use Rattle.std.proofs.Common.{◌≡◌, ◌++◌, map}
use Rattle.tv_nested.specs.NodePieces.{piece_with}
use Rattle.tv_nested.specs.Ranks.{signs_at}
use Rattle.tv_nested.specs.Signs.{first_pieces}
use Rattle.tv_nested.proofs.pieces.push_pieces.Given as goal

abbrev pub invariant-pieces : goal.invariant-pieces
invariant-pieces l = l.pieces.items ≡ l.fn.pieces.items ++ map (piece_with l.ranking l.location) (first_pieces (signs_at l.ranking l.location) l.piece)

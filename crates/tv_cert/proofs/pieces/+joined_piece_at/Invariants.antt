use Rattle.std.proofs.Common.{length}
use Rattle.tv_cert.proofs.pieces.+joined_piece_at.Given as goal

abbrev pub decreases-joined_piece_at : goal.decreases-joined_piece_at
decreases-joined_piece_at l = length l.nodes.now

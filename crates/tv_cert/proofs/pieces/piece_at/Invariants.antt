use Rattle.std.proofs.Common.{◌≡◌, drop, Option}
use Rattle.std.specs.Prelude.{slice_get}
use Rattle.tv_cert.specs.declared.node.Marked.{Marked}
use Rattle.tv_cert.specs.Pieces.{pieces_at}
use Rattle.tv_cert.proofs.pieces.piece_at.Given as goal

abbrev pub invariant-loop-piece : goal.invariant-loop-piece
invariant-loop-piece l = ◌≡◌ {A = Option Marked} (slice_get (pieces_at l.pieces l.location) l.k) (slice_get (pieces_at (drop l.piece-index l.pieces) l.location) l.left)

use Rattle.std.proofs.Common.{sym, ◌∙◌}
use Rattle.tv_cert.proofs.PieceLemmas.{item_here}
use Rattle.tv_cert.proofs.pieces.piece_at.Goals as goal
use Rattle.tv_cert.specs.Pieces.{place_of}

pub returns-then-left-eq0 : goal.returns-then-left-eq0
returns-then-left-eq0 c = c.loop-piece.invariant ∙ item_here place_of c.args.pieces.now c.args.location c.loop-piece.piece-index c.piece-item.result c.loop-piece-test.true c.piece-item.is c.loop-piece.left (sym c.location.ensures ∙ c.if-location.true) c.if-left-eq0.true

use Rattle.tv_copy.specs.SameRegions.{SamePiece}
use Rattle.tv_copy.proofs.Carrying.{zipped_more}
use Rattle.tv_copy.proofs.regions.copy_pieces.Goals as goal

pub pieces-preserved : goal.pieces-preserved
pieces-preserved c =
    zipped_more SamePiece c.args.pieces.now c.pieces.list.items c.push_item.new.items.items c.pieces.piece-index c.piece-item.result c.in_ok-copy_piece.field-0
    c.pieces-test.true c.piece-item.is c.pieces.invariant c.in_ok-copy_piece.ensures c.in_ok-push_item.ensures

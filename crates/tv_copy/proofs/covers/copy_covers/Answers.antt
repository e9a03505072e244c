use Rattle.tv_copy.specs.SameProofs.{SameCover}
use Rattle.tv_copy.proofs.Carrying.{zipped_more}
use Rattle.tv_copy.proofs.covers.copy_covers.Goals as goal

pub covers-preserved : goal.covers-preserved
covers-preserved c =
    zipped_more SameCover c.args.covers.now c.covers.copies.items c.push_item.new.items.items c.covers.cover-index c.cover-item.result c.in_ok-copy_cover.field-0
    c.covers-test.true c.cover-item.is c.covers.invariant c.in_ok-copy_cover.ensures c.in_ok-push_item.ensures

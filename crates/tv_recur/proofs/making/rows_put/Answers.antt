use Rattle.tv_recur.proofs.RowLoops.{row_put}
use Rattle.tv_recur.proofs.making.rows_put.Goals as goal

pub rows-preserved : goal.rows-preserved
rows-preserved c =
    let g = c.in-Ok.ensures.exact in
    row_put c.args.terms.now c.args.rows.now c.rows.row-index c.row-item.result c.in-Ok.made c.rows.all.items c.push_item.new.items.items c.rows-test.true c.row-item.is g.same g.fits c.in_ok-push_item-in-Ok.ensures c.rows.invariant

use Rattle.tv_linear.proofs.Copied.{copied_more}
use Rattle.tv_linear.proofs.copying.push_copies.Goals as goal

pub rows-preserved : goal.rows-preserved
rows-preserved c = copied_more c.args.list.now.items c.rows.list.items c.push.new.self.items c.args.rows.now c.rows.row-index c.row-item.result c.in_ok-copy.field-0 c.rows-test.true c.row-item.is c.in_ok-copy.ensures c.columns-columns.ensures.narrow c.in_ok-push.ensures.items c.rows.invariant

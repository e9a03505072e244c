use Rattle.tv_causes.proofs.JoinLemmas.{product_more}
use Rattle.tv_causes.proofs.join.product_at.Goals as goal

pub rows-preserved : goal.rows-preserved
rows-preserved c =
    product_more c.args.variables c.args.column c.args.rows.now c.rows.row-index c.row-item.result c.rows.product c.multiplied-product.result c.requires.even
    c.rows-test.true c.row-item.is c.multiplied-product.ensures c.rows.invariant

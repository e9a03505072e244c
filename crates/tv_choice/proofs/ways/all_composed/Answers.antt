use Rattle.tv_linear.specs.Linear.{columns}
use Rattle.tv_linear.specs.Arithmetic.{composed}
use Rattle.tv_linear.specs.Fits.{FitsComposed}
use Rattle.tv_choice.specs.Rows.{IsWidePut}
use Rattle.tv_choice.proofs.WayLemmas.{composed_more, composed_wide, not_made}
use Rattle.tv_choice.proofs.ways.all_composed.Goals as goal

pub rows-preserved : goal.rows-preserved
rows-preserved c =
    let g = c.in-Ok.ensures.exact in
    composed_more c.args.rows.now c.args.terms.now c.rows.row-index c.row-item.result c.in-Ok.made c.rows.all.items c.push_item.new.items.items c.rows-test.true c.row-item.is g.same g.fits c.in_ok-push_item-in-Ok.ensures c.rows.invariant

pub returns-in-Err-clause-refusals : goal.returns-in-Err-clause-refusals
returns-in-Err-clause-refusals c =
    let r = c.row-item.result in
    let terms = c.args.terms.now in
    not_made (FitsComposed r terms) (columns (composed r terms)) (IsWidePut terms c.args.rows.now) c.in-Err.fault c.unmade.result c.unmade.ensures c.in-Err.ensures.exact (λ column w. composed_wide c.args.rows.now terms c.rows.row-index r c.rows.all.items column c.rows-test.true c.row-item.is c.rows.invariant w)

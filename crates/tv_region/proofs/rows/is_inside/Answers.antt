use Rattle.tv_region.proofs.RowLemmas.{has_at}
use Rattle.tv_region.proofs.rows.is_inside.Goals as goal

pub returns-then-not-is_implied-clause-none : goal.returns-then-not-is_implied-clause-none
returns-then-not-is_implied-clause-none c = λ no under.
    let w = under c.row-item.result (has_at c.args.outer.now c.rows.row-index c.row-item.result c.rows-test.true c.row-item.is) in
    c.is_implied.ensures.none (λ t. let f = c.if-not-is_implied.true in cc) w.0 w.1 w.2

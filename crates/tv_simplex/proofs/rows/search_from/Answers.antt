use Rattle.std.proofs.Common.{arith, ap}
use Rattle.tv_simplex.proofs.RowLemmas.{below_last}
use Rattle.tv_simplex.proofs.rows.search_from.Goals as goal

pub returns-then-row-last-clause-below : goal.returns-then-row-last-clause-below
returns-then-row-last-clause-below c = λ width h.
    let g = ap (λ z. z.column) c.index-row-last.is in
    let k = c.if-row-last.true in
    below_last width c.args.column c.args.row.now c.index-row-last.result h c.index-row-last.is (omega (arith, g, k))

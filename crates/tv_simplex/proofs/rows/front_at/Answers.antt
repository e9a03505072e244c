use Rattle.std.proofs.Common.{◌≡◌, pos, arith, sym, ◌∙◌}
use Rattle.std.proofs.lemmas.Int.{ints}
use Rattle.tv_simplex.proofs.RowLemmas.{zero_is_none, front_other}
use Rattle.tv_simplex.proofs.rows.front_at.Goals as goal

pub returns-else-first-column-clause-is : goal.returns-else-first-column-clause-is
returns-else-first-column-clause-is c = λ width h.
    let v = c.new-else-first-column.ensures.value in
    let z : c.new-else-first-column.result.numerator ≡ pos 0 = omega (arith, ints, v) in
    zero_is_none c.new-else-first-column.result z
    ∙ sym (front_other c.args.entries.now c.first-item.result c.args.column width (omega (arith, c.in-len1-up.len_at_least)) c.first-item.is c.if-first-column.false h)

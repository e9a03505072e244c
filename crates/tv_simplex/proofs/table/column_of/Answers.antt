use Rattle.std.proofs.Common.{◌<◌, ◌^◌, unsigned_abs, arith}
use Rattle.tv_simplex.specs.Tables.{shown}
use Rattle.tv_simplex.proofs.AnswerLemmas.{column_more}
use Rattle.tv_simplex.proofs.table.column_of.Goals as goal

pub rows-preserved : goal.rows-preserved
rows-preserved c =
    let n = c.entry_at.ensures.narrow in
    let small : unsigned_abs c.entry_at.result.numerator < 2 ^ 41 = (let m = n.0 in omega (arith, m)) in
    column_more c.rows.row c.args.column (shown c.args.table.now) c.rows.fractions.items c.push_item.new.items.items c.entry_at.result c.rows.invariant c.in_ok-push_item.ensures c.entry_at.ensures.is small

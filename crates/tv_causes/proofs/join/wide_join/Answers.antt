use Rattle.std.proofs.Common.{[], arith}
use Rattle.tv_causes.specs.Walks.{joined}
use Rattle.tv_causes.proofs.JoinLemmas.{columns_joined}
use Rattle.tv_causes.proofs.WideLemmas.{narrow_row, wide_here}
use Rattle.tv_causes.proofs.join.wide_join.Goals as goal

pub returns-then-not-is_narrow_at : goal.returns-then-not-is_narrow_at
returns-then-not-is_narrow_at c =
    let row = joined c.args.join c.args.variables c.args.rows.now in
    let width = columns_joined c.args.join c.args.variables c.args.rows.now c.requires.even in
    wide_here row [] c.columns.column (record {
      inside = omega (arith, width, c.columns-test.true);
      wide = λ narrow. let e = c.is_narrow_at.ensures.1 narrow in let f = c.if-not-is_narrow_at.true in cc;
      earlier = c.columns.invariant;
    })

pub returns : goal.returns
returns c =
    let width = columns_joined c.args.join c.args.variables c.args.rows.now c.requires.even in
    narrow_row (joined c.args.join c.args.variables c.args.rows.now) (λ k l. c.columns.invariant k (omega (arith, width, l, c.columns-test.false)))

use Rattle.std.proofs.Common.{sym, subst}
use Rattle.std.proofs.lemmas.List.{take_all}
use Rattle.std.proofs.lemmas.List.Elements.{All-more, All-same}
use Rattle.tv_linear.specs.Linear.{IsNarrow}
use Rattle.tv_pre.proofs.narrow.narrow_rows.Goals as goal

pub loop-row-preserved : goal.loop-row-preserved
loop-row-preserved c = All-more IsNarrow c.args.rows.now c.loop-row.row-index c.row-item.result c.loop-row-test.true c.loop-row.invariant (subst IsNarrow c.row-item.is c.narrow_row.ensures)

pub returns : goal.returns
returns c = All-same IsNarrow c.args.rows.now _ (sym (take_all c.loop-row.row-index c.args.rows.now c.loop-row-test.false)) c.loop-row.invariant

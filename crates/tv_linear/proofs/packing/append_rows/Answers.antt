use Rattle.std.proofs.Common.{sym, subst}
use Rattle.std.proofs.lemmas.List.{take_all}
use Rattle.std.proofs.lemmas.List.Elements.{All-more, All-same}
use Rattle.tv_linear.specs.Linear.{IsNarrow}
use Rattle.tv_linear.proofs.PackedLemmas.{packed_more}
use Rattle.tv_linear.proofs.packing.append_rows.Goals as goal

pub loop-row-preserved : goal.loop-row-preserved
loop-row-preserved c = record {
  appended = packed_more c.args.rows.now c.loop-row.row-index c.row-item.result _ c.loop-row.numbers.items c.append_row.new.numbers.items c.loop-row-test.true c.row-item.is c.in_ok-append_row.ensures.appended c.loop-row.invariant.appended;
  narrow = All-more IsNarrow c.args.rows.now c.loop-row.row-index c.row-item.result c.loop-row-test.true c.loop-row.invariant.narrow (subst IsNarrow c.row-item.is c.in_ok-append_row.ensures.narrow);
}

pub returns-clause-narrow : goal.returns-clause-narrow
returns-clause-narrow c = All-same IsNarrow c.args.rows.now _ (sym (take_all c.loop-row.row-index c.args.rows.now c.loop-row-test.false)) c.loop-row.invariant.narrow

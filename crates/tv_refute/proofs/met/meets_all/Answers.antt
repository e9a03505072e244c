use Rattle.std.proofs.Common.{◌<◌, arith, length, refl}
use Rattle.tv_linear.specs.Linear.{IsMet}
use Rattle.tv_linear.specs.Views.{row_seen, rows_seen}
use Rattle.tv_refute.proofs.RowLemmas.{all_onward}
use Rattle.tv_refute.proofs.met.meets_all.Goals as goal

pub loop-i-preserved : goal.loop-i-preserved
loop-i-preserved c =
    let below : c.loop-i.i < length (rows_seen c.args.rows) = omega (arith, c.len-i-end.ensures.counted, c.loop-i-test.true) in
    all_onward (IsMet c.args.values.now) (rows_seen c.args.rows) c.loop-i.i (row_seen c.row.result) below c.row.ensures (c.if-not-meets.ensures.0 refl) c.loop-i.invariant

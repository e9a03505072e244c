use Rattle.std.proofs.Common.{◌≡◌, length}
use Rattle.tv_linear.specs.Views.{rows_seen}
use Rattle.tv_refute.proofs.Sums.{AreSummed}
use Rattle.tv_refute.proofs.frames.add_rows.Given as goal

abbrev pub invariant-loop-i : goal.invariant-loop-i
invariant-loop-i l = record {
  sums : AreSummed l.column l.count l.multipliers (rows_seen l.rows) l.initial.totals l.totals l.i;
  size : length l.totals ≡ length l.initial.totals;
}

use Rattle.std.proofs.Common.{◌≡◌, length}
use Rattle.tv_linear.specs.Known.{given}
use Rattle.tv_refute.specs.Terms.{terms_of}
use Rattle.tv_linear.specs.Views.{row_seen}
use Rattle.tv_refute.proofs.Composed.{AreComposing}
use Rattle.tv_refute.proofs.blocks.compose_row.Given as goal

abbrev pub invariant-loop-v : goal.invariant-loop-v
invariant-loop-v l = record {
  sums : AreComposing (given (row_seen l.row)) (terms_of l.terms) l.column l.count l.totals l.v;
  size : length l.totals ≡ length l.fn.totals;
}

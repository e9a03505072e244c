use Rattle.std.proofs.Common.{◌↔◌, drop}
use Rattle.std.specs.Prelude.{All}
use Rattle.tv_linear.specs.Linear.{IsMet}
use Rattle.tv_linear.specs.Views.{rows_seen}
use Rattle.tv_refute.proofs.met.meets_all.Given as goal

abbrev pub invariant-loop-i : goal.invariant-loop-i
invariant-loop-i l = All (IsMet l.values) (drop l.i (rows_seen l.rows)) ↔ All (IsMet l.values) (rows_seen l.rows)

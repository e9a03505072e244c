use Rattle.std.proofs.Common.{ℕ, ◌<◌}
use Rattle.tv_linear.specs.Fits.{IsNarrowAt}
use Rattle.tv_causes.specs.Walks.{joined}
use Rattle.tv_causes.proofs.join.wide_join.Given as goal

abbrev pub invariant-columns : goal.invariant-columns
invariant-columns l = (k : ℕ) → k < l.column → IsNarrowAt (joined l.join l.variables l.rows) k

use Rattle.std.proofs.Common.{ℕ, ◌<◌}
use Rattle.tv_simplex.specs.Views.{equations}
use Rattle.tv_simplex.specs.Starting.{IsNarrowRowOf}
use Rattle.tv_simplex.proofs.numbers.first_wide.Given as goal

abbrev pub invariant-rows : goal.invariant-rows
invariant-rows l = (k : ℕ) → k < l.row → IsNarrowRowOf (equations l.system) k

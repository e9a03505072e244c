use Rattle.std.proofs.Common.{ℕ, ◌<◌, length, pos, ◌≤ℤ◌}
use Rattle.tv_simplex.specs.Rows.{IsRestOf}
use Rattle.tv_simplex.specs.Tables.{shown, width_of}
use Rattle.tv_simplex.proofs.entering.entering_column.Given as goal

abbrev pub invariant-entries : goal.invariant-entries
invariant-entries l = (k : ℕ) × IsRestOf (shown l.table l.objective) k (width_of l.table) l.left × ((j : ℕ) → j < k → pos 0 ≤ℤ (shown l.table l.objective j).numerator)

abbrev pub decreases-entries : goal.decreases-entries
decreases-entries l = length l.left

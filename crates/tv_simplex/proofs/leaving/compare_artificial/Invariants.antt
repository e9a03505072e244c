use Rattle.std.proofs.Common.{ℕ, ◌<◌, ◌≤◌, ◌+◌, length}
use Rattle.std.specs.declared.cmp.Ordering.TheVariants.{Equal}
use Rattle.tv_simplex.specs.Choosing.{ComparesAt}
use Rattle.tv_simplex.specs.Rows.{IsRestOf}
use Rattle.tv_simplex.specs.Tables.{shown, width_of}
use Rattle.tv_simplex.proofs.leaving.compare_artificial.Given as goal

abbrev pub invariant-columns : goal.invariant-columns
invariant-columns l = (k : ℕ) × (l.table.columns ≤ k) × (k ≤ width_of l.table) × IsRestOf (shown l.table l.first) k (width_of l.table) l.left × IsRestOf (shown l.table l.second) k (width_of l.table) l.right
    × ((j : ℕ) → l.table.columns ≤ j → j < k → ComparesAt (l.table.columns + length l.table.basis.items) l.column j (shown l.table l.first) (shown l.table l.second) Equal)

abbrev pub decreases-columns : goal.decreases-columns
decreases-columns l = length l.left + length l.right

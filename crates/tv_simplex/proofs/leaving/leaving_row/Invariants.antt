use Rattle.std.proofs.Common.{MatchOption, ℕ, ◌≤◌, length}
use Rattle.tv_simplex.specs.Rows.{entry_in, IsRestOf}
use Rattle.tv_simplex.specs.Choosing.{NoneAbove, IsLeast}
use Rattle.tv_simplex.specs.Tables.{shown}
use Rattle.tv_simplex.proofs.leaving.leaving_row.Given as goal

abbrev pub invariant-factors : goal.invariant-factors
invariant-factors l = (k : ℕ) × (k ≤ length l.table.basis.items) × IsRestOf (entry_in l.factors) k (length l.table.rows.items) l.left
    × MatchOption l.best (NoneAbove (shown l.table) l.column k) (λ r. IsLeast (length l.table.basis.items) l.table.columns (shown l.table) l.column k r)

abbrev pub decreases-factors : goal.decreases-factors
decreases-factors l = length l.left

use Rattle.std.proofs.Common.{ℕ, ◌≤◌, ◌-◌, length, take, drop}
use Rattle.tv_simplex.specs.Rows.{IsSparse}
use Rattle.tv_simplex.proofs.rows.entries_from.Given as goal

abbrev pub invariant-halves : goal.invariant-halves
invariant-halves l = (l.first ≤ l.end) × (l.end ≤ length l.row) × ((width : ℕ) → IsSparse 0 width l.row → IsSparse 0 l.column (take l.first l.row) × IsSparse l.column width (drop l.end l.row))

abbrev pub decreases-halves : goal.decreases-halves
decreases-halves l = l.end - l.first

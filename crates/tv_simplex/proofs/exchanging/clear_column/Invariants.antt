use Rattle.std.proofs.Common.{ℕ, ◌≤◌, length}
use Rattle.tv_simplex.specs.Rows.{entry_in, IsRestOf}
use Rattle.tv_simplex.proofs.TableLemmas.{ClearedTo}
use Rattle.tv_simplex.proofs.exchanging.clear_column.Given as goal

abbrev pub invariant-factors : goal.invariant-factors
invariant-factors l = (k : ℕ) × (k ≤ length l.fn.rows) × IsRestOf (entry_in l.factors) k (length l.fn.rows) l.left × ClearedTo l.width l.row (entry_in l.factors) l.pivots k l.fn.rows l.rows

abbrev pub decreases-factors : goal.decreases-factors
decreases-factors l = length l.left

use Rattle.std.proofs.Common.{ℕ, ◌*◌, ◌<◌, ◌≤◌, length}
use Rattle.tv_simplex.specs.Systems.{entry_at}
use Rattle.tv_simplex.specs.Entries.{AreKept}
use Rattle.tv_simplex.specs.Outcomes.{IsNarrow}
use Rattle.tv_simplex.specs.Views.{equations}
use Rattle.tv_simplex.proofs.numbers.first_wide_column.Given as goal

abbrev pub invariant-kept : goal.invariant-kept
invariant-kept l = (from : ℕ) × (from ≤ l.system.columns) × AreKept (entry_at (equations l.system) l.row) (l.row * l.system.columns) from l.system.columns l.left × ((j : ℕ) → j < from → IsNarrow (entry_at (equations l.system) l.row j))

abbrev pub decreases-kept : goal.decreases-kept
decreases-kept l = length l.left

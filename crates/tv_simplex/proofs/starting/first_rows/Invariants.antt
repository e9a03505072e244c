use Rattle.std.proofs.Common.{ℕ, ◌≡◌, ◌<◌, length}
use Rattle.tv_simplex.specs.Views.{equations}
use Rattle.tv_simplex.specs.Rows.{row_of}
use Rattle.tv_simplex.specs.Starting.{IsFirstRow}
use Rattle.tv_simplex.proofs.starting.first_rows.Given as goal

abbrev pub invariant-rows : goal.invariant-rows
invariant-rows l = (length l.rows.items ≡ l.row) × ((i : ℕ) → i < l.row → IsFirstRow (equations l.system) i (row_of l.rows.items i))

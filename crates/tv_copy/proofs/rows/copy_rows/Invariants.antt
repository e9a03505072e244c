use Rattle.std.proofs.Common.{◌≡◌, ◌++◌, length}
use Rattle.tv_linear.specs.Views.{rows_seen}
use Rattle.tv_copy.proofs.rows.copy_rows.Given as goal

abbrev pub invariant-rows : goal.invariant-rows
invariant-rows l = rows_seen l.fn.rows ≡ l.copies.items ++ rows_seen l.left

abbrev pub decreases-rows : goal.decreases-rows
decreases-rows l = length (rows_seen l.left)

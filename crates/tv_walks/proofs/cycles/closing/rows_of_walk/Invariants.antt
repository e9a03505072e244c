use Rattle.std.proofs.Common.{◌≤◌, length}
use Rattle.tv_walks.proofs.cycles.closing.rows_of_walk.Given as goal

abbrev pub invariant-loop-place : goal.invariant-loop-place
invariant-loop-place l = length l.end ≤ length l.rows.items

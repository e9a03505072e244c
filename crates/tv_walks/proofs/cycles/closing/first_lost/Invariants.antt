use Rattle.std.proofs.Common.{◌≤◌}
use Rattle.tv_walks.proofs.cycles.closing.first_lost.Given as goal

abbrev pub invariant-loop-place : goal.invariant-loop-place
invariant-loop-place l = l.effort.left ≤ l.fn.effort.left

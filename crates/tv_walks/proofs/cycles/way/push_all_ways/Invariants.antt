use Rattle.std.proofs.Common.{◌≤◌, length}
use Rattle.tv_walks.proofs.cycles.way.push_all_ways.Given as goal

abbrev pub invariant-loop-list : goal.invariant-loop-list
invariant-loop-list l = length l.ways.items ≤ 300

use Rattle.std.proofs.Common.{◌≤◌, length}
use Rattle.tv_walks.proofs.cycles.way.push_ways.Given as goal

abbrev pub invariant-loop-rows : goal.invariant-loop-rows
invariant-loop-rows l = length l.ways.items ≤ 300

use Rattle.std.proofs.Common.{◌≤◌, length}
use Rattle.tv_walks.proofs.cycles.way.ways_under.Given as goal

abbrev pub invariant-loop-case : goal.invariant-loop-case
invariant-loop-case l = length l.ways.items ≤ 300

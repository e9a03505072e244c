use Rattle.std.proofs.Common.{◌≡◌, ◌≤◌, ◌+◌, length}
use Rattle.tv_walks.proofs.cycles.walking.push_closed.Given as goal

abbrev pub invariant-loop-place : goal.invariant-loop-place
invariant-loop-place l = record {
  few : l.count ≤ l.wanted.most;
  counted : length l.closed.items ≡ length l.fn.closed.items + l.count;
}

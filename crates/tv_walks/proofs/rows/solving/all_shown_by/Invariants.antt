use Rattle.std.proofs.Common.{◌≡◌, ◌≤◌, length}
use Rattle.tv_walks.proofs.rows.solving.all_shown_by.Given as goal

abbrev pub invariant-loop-row : goal.invariant-loop-row
invariant-loop-row l = record {
  counted : length l.lines.items ≡ l.row-index;
  fewer : l.effort.left ≤ l.fn.effort.left;
}

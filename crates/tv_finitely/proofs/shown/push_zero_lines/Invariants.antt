use Rattle.std.proofs.Common.{◌≡◌, ◌++◌}
use Rattle.tv_rank.specs.Given.{lists}
use Rattle.tv_finitely.specs.Lines.{zero_lines}
use Rattle.tv_finitely.proofs.shown.push_zero_lines.Given as goal

abbrev pub invariant-zeros : goal.invariant-zeros
invariant-zeros l = lists l.lines.items ≡ lists l.fn.lines.items ++ zero_lines l.met l.zero

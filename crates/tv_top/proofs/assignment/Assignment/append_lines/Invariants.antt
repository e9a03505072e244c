use Rattle.std.proofs.Common.{◌≡◌, ◌++◌, drop}
use Rattle.tv_top.specs.Answers.{value_lines}
use Rattle.tv_top.proofs.assignment.Assignment.append_lines.Given as goal

abbrev pub invariant-loop-number : goal.invariant-loop-number
invariant-loop-number l = l.out.items ++ value_lines (drop l.number l.self.names) (drop l.number l.self.values.items) ≡ l.fn.out.items ++ value_lines l.self.names l.self.values.items

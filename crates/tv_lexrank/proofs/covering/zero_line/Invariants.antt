use Rattle.std.proofs.Common.{◌≡◌}
use Rattle.tv_linear.specs.Arithmetic.{zeros}
use Rattle.tv_lexrank.proofs.covering.zero_line.Given as goal

abbrev pub invariant-rows : goal.invariant-rows
invariant-rows l = l.line.items ≡ zeros l.row

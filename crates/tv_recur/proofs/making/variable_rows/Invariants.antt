use Rattle.std.proofs.Common.{◌≡◌}
use Rattle.tv_cases.specs.EdgeCases.{columns_from}
use Rattle.tv_recur.proofs.making.variable_rows.Given as goal

abbrev pub invariant-variables : goal.invariant-variables
invariant-variables l = l.rows.items ≡ columns_from l.columns 0 l.variable

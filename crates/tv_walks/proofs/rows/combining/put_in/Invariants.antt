use Rattle.std.proofs.Common.{◌≡◌, length}
use Rattle.tv_walks.proofs.rows.combining.put_in.Given as goal

abbrev pub invariant-loop-column : goal.invariant-loop-column
invariant-loop-column l = length l.coefficients.items ≡ l.column

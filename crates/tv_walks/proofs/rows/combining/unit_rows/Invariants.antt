use Rattle.std.proofs.Common.{◌≡◌, All, length}
use Rattle.tv_walks.proofs.rows.combining.unit_rows.Given as goal

abbrev pub invariant-loop-column : goal.invariant-loop-column
invariant-loop-column l = record {
  counted : length l.rows.items ≡ l.column;
  even : All (λ r. length r.coefficients ≡ l.columns) l.rows.items;
}

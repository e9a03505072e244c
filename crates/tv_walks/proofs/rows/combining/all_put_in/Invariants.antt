use Rattle.std.proofs.Common.{◌≡◌, All, length}
use Rattle.tv_walks.proofs.rows.combining.all_put_in.Given as goal

abbrev pub invariant-loop-row : goal.invariant-loop-row
invariant-loop-row l = record {
  counted : length l.all.items ≡ l.row-index;
  even : All (λ r. length r.coefficients ≡ l.columns) l.all.items;
}

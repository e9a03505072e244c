use Rattle.std.proofs.Common.{◌≡◌, All, length}
use Rattle.tv_walks.proofs.cycles.way.terms_after.Given as goal

abbrev pub invariant-loop-variable : goal.invariant-loop-variable
invariant-loop-variable l = record {
  counted : length l.terms.items ≡ l.variable;
  even : All (λ r. length r.coefficients ≡ l.columns) l.terms.items;
}

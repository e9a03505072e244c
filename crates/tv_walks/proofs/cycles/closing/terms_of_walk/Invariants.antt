use Rattle.std.proofs.Common.{◌≡◌, All, length}
use Rattle.tv_walks.proofs.cycles.closing.terms_of_walk.Given as goal

abbrev pub invariant-loop-place : goal.invariant-loop-place
invariant-loop-place l = record {
  counted : length l.terms.items ≡ l.columns;
  even : All (λ r. length r.coefficients ≡ l.columns) l.terms.items;
}

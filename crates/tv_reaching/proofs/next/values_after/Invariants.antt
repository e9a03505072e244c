use Rattle.std.proofs.Common.{◌≡◌, All, map}
use Rattle.tv_linear.specs.Linear.{IsWithin}
use Rattle.tv_linear.specs.Known.{term_value}
use Rattle.tv_linear.specs.Terms.{terms_after}
use Rattle.tv_reaching.proofs.next.values_after.Given as goal

abbrev pub invariant-loop-variable : goal.invariant-loop-variable
invariant-loop-variable l = record {
  exact : l.values.items ≡ map (term_value l.point) (terms_after l.variable l.updates);
  narrow : All (IsWithin 62) l.values.items;
}

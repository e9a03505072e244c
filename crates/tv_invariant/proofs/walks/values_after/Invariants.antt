use Rattle.std.proofs.Common.{◌≡◌, map}
use Rattle.tv_linear.specs.Known.{term_value}
use Rattle.tv_linear.specs.Terms.{terms_after}
use Rattle.tv_invariant.proofs.walks.values_after.Given as goal

abbrev pub invariant-variables : goal.invariant-variables
invariant-variables l = l.values.items ≡ map (term_value l.point) (terms_after l.variable l.updates)

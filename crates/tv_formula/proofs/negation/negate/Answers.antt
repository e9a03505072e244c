use Rattle.std.proofs.Common.{◌∙◌}
use Rattle.tv_formula.specs.Views.{property}
use Rattle.tv_formula.proofs.NormalLemmas.{negation_keeps, negation_is_normal}
use Rattle.tv_formula.proofs.negation.negate.Goals as goal

pub new-requires : goal.new-requires
new-requires c = negation_keeps _ _ _ _ _ _ _ c.variables.ensures c.locations.ensures c.in_ok-tree.ensures c.tree.ensures.same c.tree.ensures.limits

pub returns-clause-is_normal : goal.returns-clause-is_normal
returns-clause-is_normal c = negation_is_normal (property c.tree.result.now) _ (c.new.ensures.same ∙ c.in_ok-tree.ensures)

use Rattle.std.proofs.Common.{◌∙◌, ◌++◌, ◌∷◌, [], sym, rules, FitsSigned}
use Rattle.std.specs.Int.{w128}
use Rattle.std.proofs.lemmas.Int.{to_z-of_z}
use Rattle.tv_linear.specs.Known.{term_value}
use Rattle.tv_cases.proofs.BeforeValue.{terms-push}
use Rattle.tv_invariant.proofs.walks.values_after.Goals as goal

pub variables-preserved : goal.variables-preserved
variables-preserved c =
    let fits : FitsSigned w128 c.in-Some.value = search rules in
    let items = simp to_z-of_z at c.in_ok-push_item-in-Some.ensures in
    items ∙ (λ i. c.variables.invariant i ++ c.in-Some.ensures i ∷ []) ∙ sym (terms-push (term_value c.args.point.now) c.args.updates.now c.variables.variable)

use Rattle.std.proofs.Common.{sym, subst, ap, ◌∙◌}
use Rattle.tv_formula.specs.Formulas.{property_of, variables_of, locations_of}
use Rattle.tv_formula.specs.Views.{property}
use Rattle.tv_cases.specs.Systems.{cases_of}
use Rattle.tv_known.specs.Subformulas.{subformulas}
use Rattle.tv_pre.specs.declared.wide.Comparisons.TheVariants.{HaveRows}
use Rattle.tv_pre.specs.Full.{HasRows}
use Rattle.tv_pre.specs.Wide.{IsLinear, AreTold}
use Rattle.tv_pre.proofs.WideLemmas.{is_linear_in, rows_told}
use Rattle.tv_pre.proofs.deciding.first_wide.Goals as goal

pub comparisons_of-requires-clause-linear : goal.comparisons_of-requires-clause-linear
comparisons_of-requires-clause-linear c =
    let g = c.proved.result.now in
    subst IsLinear (sym c.tree.ensures.same) (is_linear_in (variables_of g) (locations_of g) (property_of g) c.tree.ensures.limits.fits)

pub comparisons_of-requires-2-clause-linear : goal.comparisons_of-requires-2-clause-linear
comparisons_of-requires-2-clause-linear c =
    let g = c.denied.result.now in
    subst IsLinear (sym c.tree-2.ensures.same) (is_linear_in (variables_of g) (locations_of g) (property_of g) c.tree-2.ensures.limits.fits)

pub returns-in-HaveRows-2 : goal.returns-in-HaveRows-2
returns-in-HaveRows-2 c =
    let about = cases_of c.args.setting.now.about.now in
    let n = c.variables-variables.result in
    let claim = c.args.claim.now in
    let first = rows_told n (property_of claim.proved) c.in-HaveRows.size
    (subst (λ g. AreTold n (subformulas g) (HaveRows c.in-HaveRows.size)) (c.tree.ensures.same ∙ ap property_of c.proved.ensures) (subst (AreTold n (subformulas (property c.tree.result.now))) c.in-HaveRows.is c.in_ok-place.ensures)) in
    let second = rows_told n (property_of claim.denied) c.in-HaveRows-2.size
    (subst (λ g. AreTold n (subformulas g) (HaveRows c.in-HaveRows-2.size)) (c.tree-2.ensures.same ∙ ap property_of c.denied.ensures) (subst (AreTold n (subformulas (property c.tree-2.result.now))) c.in-HaveRows-2.is c.in_ok-place-2.ensures)) in (
      subst (λ k. HasRows k (property_of claim.proved)) c.variables-variables.ensures.same first,
      subst (λ k. HasRows k (property_of claim.denied)) c.variables-variables.ensures.same second,
    )

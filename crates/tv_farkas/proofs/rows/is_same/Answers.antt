use Rattle.std.proofs.Common.{rules, FitsSigned, ◌∙◌, ap, sym}
use Rattle.std.specs.Int.{w128}
use Rattle.std.specs.Cmp.Rules.{signed_items}
use Rattle.std.proofs.lemmas.Int.{to_z-of_z}
use mir.Val.{to_z}
use Rattle.tv_farkas.proofs.rows.is_same.Goals as goal

pub returns-then-constant : goal.returns-then-constant
returns-then-constant c =
    let d = signed_items c.coefficients.result.now c.coefficients-then-constant.result.now in
    let f : FitsSigned w128 c.constant.result = search rules in
    let g : FitsSigned w128 c.constant-2.result = search rules in
    let k = sym c.constant.ensures.is ∙ sym (to_z-of_z w128 c.constant.result f) ∙ ap (to_z w128) c.if-constant.true ∙ to_z-of_z w128 c.constant-2.result g ∙ c.constant-2.ensures.is in (
      λ h. (let e = sym c.coefficients.ensures.is ∙ d.0 (sym c.eq.ensures ∙ h) ∙ c.coefficients-then-constant.ensures.is in λ i. record { coefficients = e i; constant = k i }),
      λ e. c.eq.ensures ∙ d.1 (c.coefficients.ensures.is ∙ ap (λ r. r.coefficients) e ∙ sym c.coefficients-then-constant.ensures.is),
    )

use Rattle.std.proofs.Common.{◌≤ℤ◌, rules, FitsSigned, ◌∙◌, sym, subst}
use Rattle.std.specs.Int.{w128}
use Rattle.std.specs.Cmp.Rules.{signed_items}
use Rattle.std.proofs.lemmas.Int.{to_z-of_z}
use Rattle.tv_invariant.proofs.rows.implies.Goals as goal
use Rattle.tv_linear.proofs.ListLaws.{le_from_test}

pub returns-then-constant : goal.returns-then-constant
returns-then-constant c h =
    let d = signed_items c.coefficients.result.now c.coefficients-then-constant.result.now in
    let f : FitsSigned w128 c.constant.result = search rules in
    let g : FitsSigned w128 c.constant-2.result = search rules in
    let t = le_from_test c.constant-2.result c.constant.result (simp to_z-of_z at c.if-constant.true) in
    let k = subst (λ z. z ≤ℤ c.args.strong.now.constant) c.constant-2.ensures.is (subst (λ z. c.constant-2.result ≤ℤ z) c.constant.ensures.is t) in
    record { same = sym c.coefficients.ensures.is ∙ d.0 (sym c.eq.ensures ∙ h) ∙ c.coefficients-then-constant.ensures.is; more = k }

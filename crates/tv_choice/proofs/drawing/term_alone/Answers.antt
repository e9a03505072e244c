use Rattle.std.proofs.Common.{◌∙◌, inl, inr, ap, sym, drop}
use Rattle.std.specs.Cmp.Rules.{signed_items}
use Rattle.tv_linear.specs.Arithmetic.{opposite}
use Rattle.tv_choice.proofs.drawing.term_alone.Goals as goal

pub returns-then-eq : goal.returns-then-eq
returns-then-eq c =
    let d = signed_items c.split_at.result.1.now c.coefficients-2.result.now in
    let part = sym (c.split_at.ensures.back ∙ ap (λ cs. drop c.args.columns cs) c.coefficients.ensures.is) ∙ d.0 (sym c.eq.ensures ∙ c.if-eq.true) ∙ c.coefficients-2.ensures.is ∙ ap (λ r. r.coefficients) c.in_ok-unit.ensures in
    inl (part, c.in_ok-opposite.ensures ∙ ap opposite c.in_ok-rest.ensures)

pub returns-then-eq-2 : goal.returns-then-eq-2
returns-then-eq-2 c =
    let d = signed_items c.split_at.result.1.now c.coefficients-3.result.now in
    let row = c.in_ok-opposite-2.ensures ∙ ap opposite c.in_ok-unit.ensures in
    let part = sym (c.split_at.ensures.back ∙ ap (λ cs. drop c.args.columns cs) c.coefficients.ensures.is) ∙ d.0 (sym c.eq-2.ensures ∙ c.if-eq-2.true) ∙ c.coefficients-3.ensures.is ∙ ap (λ r. r.coefficients) row in
    inr (part, c.in_ok-front.ensures)

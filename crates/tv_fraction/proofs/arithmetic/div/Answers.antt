use Rattle.std.proofs.Common.{rules, arith, lit≤, ◌≡◌, ◌^◌, ◌-ℤ◌, ◌*ℤ◌, sym, FitsSigned, pos, ◌∙◌, ap, neg_ℤ}
use Rattle.std.specs.Int.{w128}
use mir.Val.{to_z, of_z}
use Rattle.std.proofs.lemmas.Int.{ints}
use Rattle.tv_fraction.proofs.Products.{product_back, negation_is, negated_below, both_negative, not_none}
use Rattle.tv_fraction.proofs.arithmetic.div.Goals as goal

pub returns-then-under-lt0-clause-value : goal.returns-then-under-lt0-clause-value
returns-then-under-lt0-clause-value c =
    let fu : FitsSigned w128 c.short_product-under.result = search rules in
    let fo : FitsSigned w128 c.short_product-over.result = search rules in
    let fa : FitsSigned w128 c.args.a.now.denominator = search rules in
    let fb : FitsSigned w128 c.args.b.now.denominator = search rules in
    let na : FitsSigned w128 c.args.a.now.numerator = search rules in
    let nb : FitsSigned w128 c.args.b.now.numerator = search rules in
    let bu = c.short_product-under.ensures.bound in
    let bo = c.short_product-over.ensures.bound in
    let eu = product_back c.short_product-under.result c.args.a.now.denominator c.args.b.now.numerator fa nb c.short_product-under.ensures.product in
    let eo = product_back c.short_product-over.result c.args.a.now.numerator c.args.b.now.denominator na fb c.short_product-over.ensures.product in
    let e : c.new.result.numerator *ℤ neg_ℤ c.short_product-under.result ≡ neg_ℤ c.short_product-over.result *ℤ c.new.result.denominator =
    ap (λ z. c.new.result.numerator *ℤ z) (sym (negation_is c.short_product-under.result fu (omega (arith, bu)))) ∙ c.new.ensures.value ∙ ap (λ z. z *ℤ c.new.result.denominator) (negation_is c.short_product-over.result fo (omega (arith, bo))) in
    ap (λ z. c.new.result.numerator *ℤ z) (sym eu) ∙ both_negative c.new.result.numerator c.short_product-under.result c.short_product-over.result c.new.result.denominator e ∙ ap (λ z. z *ℤ c.new.result.denominator) eo

pub returns-then-under-lt0-clause-bound : goal.returns-then-under-lt0-clause-bound
returns-then-under-lt0-clause-bound c =
    let fo : FitsSigned w128 c.short_product-over.result = search rules in
    let fu : FitsSigned w128 c.short_product-under.result = search rules in (
      negated_below c.new.result.numerator c.short_product-over.result (2 ^ 80) fo c.short_product-over.ensures.bound (lit≤ tt) c.new.ensures.numerator_bound,
      negated_below c.new.result.denominator c.short_product-under.result (2 ^ 80) fu c.short_product-under.ensures.bound (lit≤ tt) c.new.ensures.denominator_bound,
    )

pub new-requires-2-clause-positive : goal.new-requires-2-clause-positive
new-requires-2-clause-positive c =
    let fu : FitsSigned w128 c.short_product-under.result = search rules in
    let fa : FitsSigned w128 c.args.a.now.denominator = search rules in
    let nb : FitsSigned w128 c.args.b.now.numerator = search rules in
    let eu = product_back c.short_product-under.result c.args.a.now.denominator c.args.b.now.numerator fa nb c.short_product-under.ensures.product in
    let n : c.short_product-under.result ≡ pos 0 → ⊥ = λ z. not_none c.args.a.now.denominator c.args.b.now.numerator c.args.a.now.positive c.requires.nonzero (sym eu ∙ z) in
    let l = c.if-under-lt0.false in
    omega (arith, ints, n, l)

pub new-requires-clause-numerator_fits : goal.new-requires-clause-numerator_fits
new-requires-clause-numerator_fits c =
    let fo : FitsSigned w128 c.short_product-over.result = search rules in
    let b = negated_below (to_z w128 (of_z w128 (pos 0 -ℤ to_z w128 (of_z w128 c.short_product-over.result)))) c.short_product-over.result (2 ^ 80) fo c.short_product-over.ensures.bound (lit≤ tt) (omega arith) in
    omega (arith, b)

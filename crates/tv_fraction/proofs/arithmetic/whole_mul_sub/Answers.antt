use Rattle.std.proofs.Common.{rules, arith, ◌^◌, ◌*ℤ◌, ◌-ℤ◌, FitsSigned, ◌∙◌, ap, unsigned_abs}
use Rattle.std.specs.Int.{w128}
use Rattle.std.proofs.lemmas.Int.{ints}
use Rattle.tv_fraction.proofs.Products.{abs_sub_below, product_back, difference_is}
use Rattle.tv_fraction.proofs.arithmetic.whole_mul_sub.Goals as goal

pub returns-clause-value : goal.returns-clause-value
returns-clause-value c =
    let fa : FitsSigned w128 c.args.a = search rules in
    let fc : FitsSigned w128 c.args.c = search rules in
    let fq : FitsSigned w128 c.args.q = search rules in
    let ft : FitsSigned w128 c.short_product-taken.result = search rules in
    let b = abs_sub_below c.args.a c.short_product-taken.result (2 ^ 40) (2 ^ 80) c.requires.a_narrow c.short_product-taken.ensures.bound in
    let e = product_back c.short_product-taken.result c.args.c c.args.q fc fq c.short_product-taken.ensures.product in
    c.new.ensures.value ∙ ap (λ z. z *ℤ c.new.result.denominator) (difference_is c.args.a c.short_product-taken.result fa ft (omega (arith, b)) ∙ ap (λ z. c.args.a -ℤ z) e)

pub returns-clause-bound : goal.returns-clause-bound
returns-clause-bound c =
    let fa : FitsSigned w128 c.args.a = search rules in
    let ft : FitsSigned w128 c.short_product-taken.result = search rules in
    let b = abs_sub_below c.args.a c.short_product-taken.result (2 ^ 40) (2 ^ 80) c.requires.a_narrow c.short_product-taken.ensures.bound in
    let n = ap unsigned_abs (difference_is c.args.a c.short_product-taken.result fa ft (omega (arith, b))) in
    (omega (arith, n, b, c.new.ensures.numerator_bound), omega (arith, ints, c.new.ensures.denominator_bound))

use Rattle.std.proofs.Common.{rules, arith, ◌^◌, ◌*ℤ◌, ◌-ℤ◌, ◌<ℤ◌, sym, FitsSigned, pos, ◌∙◌, ap, unsigned_abs}
use Rattle.std.specs.Int.{w128}
use Rattle.std.proofs.Math.IntN.{*ℤ_comm}
use Rattle.std.proofs.lemmas.Int.{ints, to_z-of_z}
use Rattle.tv_fraction.proofs.Products.{abs_sub_below, product_above, product_back, difference_is, whole_difference}
use Rattle.tv_fraction.proofs.arithmetic.mul_sub.Goals as goal

pub overflow_sub-kept : goal.overflow_sub-kept
overflow_sub-kept c =
    let b = c.long_product-kept.ensures.bound in
    let d = c.long_product-taken.ensures.bound in
    omega (arith, ints, b, d)

pub new-requires-clause-positive : goal.new-requires-clause-positive
new-requires-clause-positive c =
    let fu : FitsSigned w128 c.short_product-under.result = search rules in
    let fd : FitsSigned w128 c.long_product-denominator.result = search rules in
    let fa : FitsSigned w128 c.args.a.now.denominator = search rules in
    let fc : FitsSigned w128 c.args.c.now.denominator = search rules in
    let fq : FitsSigned w128 c.args.q.now.denominator = search rules in
    let eu = product_back c.short_product-under.result c.args.c.now.denominator c.args.q.now.denominator fc fq c.short_product-under.ensures.product in
    let ed = product_back c.long_product-denominator.result c.args.a.now.denominator c.short_product-under.result fa fu c.long_product-denominator.ensures.product in
    let pu : pos 0 <ℤ c.short_product-under.result = rw eu (product_above c.args.c.now.denominator c.args.q.now.denominator c.args.c.now.positive c.args.q.now.positive) in
    let pd : pos 0 <ℤ c.long_product-denominator.result = rw ed (product_above c.args.a.now.denominator c.short_product-under.result c.args.a.now.positive pu) in
    rw (to_z-of_z w128 c.long_product-denominator.result fd) pd

pub new-requires-clause-numerator_fits : goal.new-requires-clause-numerator_fits
new-requires-clause-numerator_fits c =
    let fk : FitsSigned w128 c.long_product-kept.result = search rules in
    let ft : FitsSigned w128 c.long_product-taken.result = search rules in
    let b = abs_sub_below c.long_product-kept.result c.long_product-taken.result (2 ^ 120) (2 ^ 120) c.long_product-kept.ensures.bound c.long_product-taken.ensures.bound in
    rw (difference_is c.long_product-kept.result c.long_product-taken.result fk ft (omega (arith, b))) (omega (arith, b))

pub returns-clause-value : goal.returns-clause-value
returns-clause-value c =
    let fk : FitsSigned w128 c.long_product-kept.result = search rules in
    let ft : FitsSigned w128 c.long_product-taken.result = search rules in
    let fu : FitsSigned w128 c.short_product-under.result = search rules in
    let fo : FitsSigned w128 c.short_product-over.result = search rules in
    let fd : FitsSigned w128 c.long_product-denominator.result = search rules in
    let fa : FitsSigned w128 c.args.a.now.denominator = search rules in
    let fc : FitsSigned w128 c.args.c.now.denominator = search rules in
    let fq : FitsSigned w128 c.args.q.now.denominator = search rules in
    let na : FitsSigned w128 c.args.a.now.numerator = search rules in
    let nc : FitsSigned w128 c.args.c.now.numerator = search rules in
    let nq : FitsSigned w128 c.args.q.now.numerator = search rules in
    let b = abs_sub_below c.long_product-kept.result c.long_product-taken.result (2 ^ 120) (2 ^ 120) c.long_product-kept.ensures.bound c.long_product-taken.ensures.bound in
    let eu = product_back c.short_product-under.result c.args.c.now.denominator c.args.q.now.denominator fc fq c.short_product-under.ensures.product in
    let eo = product_back c.short_product-over.result c.args.c.now.numerator c.args.q.now.numerator nc nq c.short_product-over.ensures.product in
    let ed = product_back c.long_product-denominator.result c.args.a.now.denominator c.short_product-under.result fa fu c.long_product-denominator.ensures.product ∙ ap (λ z. c.args.a.now.denominator *ℤ z) eu in
    let ek = product_back c.long_product-kept.result c.args.a.now.numerator c.short_product-under.result na fu c.long_product-kept.ensures.product ∙ ap (λ z. c.args.a.now.numerator *ℤ z) eu in
    let et = product_back c.long_product-taken.result c.args.a.now.denominator c.short_product-over.result fa fo c.long_product-taken.ensures.product ∙ ap (λ z. c.args.a.now.denominator *ℤ z) eo ∙ *ℤ_comm c.args.a.now.denominator (c.args.c.now.numerator *ℤ c.args.q.now.numerator) in
    ap (λ z. c.new.result.numerator *ℤ z) (sym (to_z-of_z w128 c.long_product-denominator.result fd ∙ ed)) ∙ c.new.ensures.value ∙ ap (λ z. z *ℤ c.new.result.denominator) (difference_is c.long_product-kept.result c.long_product-taken.result fk ft (omega (arith, b)) ∙ (λ i. ek i -ℤ et i))

pub returns-clause-bound : goal.returns-clause-bound
returns-clause-bound c =
    let fk : FitsSigned w128 c.long_product-kept.result = search rules in
    let ft : FitsSigned w128 c.long_product-taken.result = search rules in
    let fd : FitsSigned w128 c.long_product-denominator.result = search rules in
    let b = abs_sub_below c.long_product-kept.result c.long_product-taken.result (2 ^ 120) (2 ^ 120) c.long_product-kept.ensures.bound c.long_product-taken.ensures.bound in
    let n = ap unsigned_abs (difference_is c.long_product-kept.result c.long_product-taken.result fk ft (omega (arith, b))) in
    let d = ap unsigned_abs (to_z-of_z w128 c.long_product-denominator.result fd) in
    (omega (arith, n, b, c.new.ensures.numerator_bound), omega (arith, d, c.long_product-denominator.ensures.bound, c.new.ensures.denominator_bound))

pub returns-then-are_whole-clause-value : goal.returns-then-are_whole-clause-value
returns-then-are_whole-clause-value c =
    let a = c.args.a.now in
    let f = c.args.c.now in
    let q = c.args.q.now in
    let w = c.are_whole.ensures.0 c.if-are_whole.true in
    let na : FitsSigned w128 a.numerator = search rules in
    let nc : FitsSigned w128 f.numerator = search rules in
    let nq : FitsSigned w128 q.numerator = search rules in
    let e = c.whole_mul_sub.ensures.value ∙ ap (λ z. z *ℤ c.whole_mul_sub.result.denominator) (λ i. to_z-of_z w128 a.numerator na i -ℤ (to_z-of_z w128 f.numerator nc i *ℤ to_z-of_z w128 q.numerator nq i)) in
    whole_difference c.whole_mul_sub.result.numerator c.whole_mul_sub.result.denominator a.numerator a.denominator f.numerator f.denominator q.numerator q.denominator w.0 w.1 w.2 e

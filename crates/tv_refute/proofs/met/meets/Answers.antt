use Rattle.std.proofs.Common.{arith, rules, ap, subst, length, get_or, pos, ◌≡◌, ◌∙◌, ◌↔◌, ◌*ℤ◌, ◌≤ℤ◌, FitsSigned}
use Rattle.std.specs.Int.{w64, w128}
use Rattle.std.proofs.lemmas.Int.{ints, to_z-of_z}
use Rattle.std.specs.Prelude.{IsTrue}
use Rattle.tv_linear.specs.Linear.{dot, value}
use Rattle.tv_refute.specs.Wide.{whole_of}
use Rattle.tv_linear.specs.Views.{row_seen}
use Rattle.tv_refute.proofs.Wholes.{summed_more, summed_all}
use Rattle.tv_refute.proofs.met.meets.Goals as goal

pub loop-i-preserved : goal.loop-i-preserved
loop-i-preserved c =
    let cs = c.coefficients-coefficients.result.now in
    let xs = c.args.values.now in
    let listed_fits : FitsSigned w64 (get_or c.coefficients-coefficients.result.now c.loop-i.i (pos 0)) = search rules in
    let factor_fits : FitsSigned w128 c.from.result = search rules in
    let factor_is : c.from.result ≡ get_or cs c.loop-i.i (pos 0) = simp to_z-of_z at c.from.ensures in
    let value_fits : FitsSigned w128 (get_or c.args.values.now c.loop-i.i (pos 0)) = search rules in
    let times : whole_of c.product.result ≡ c.from.result *ℤ get_or xs c.loop-i.i (pos 0) = simp to_z-of_z at c.product.ensures.whole in
    let product : whole_of c.product.result ≡ get_or cs c.loop-i.i (pos 0) *ℤ get_or xs c.loop-i.i (pos 0) = times ∙ ap (λ z. z *ℤ get_or xs c.loop-i.i (pos 0)) factor_is in
    let counted = ap length c.coefficients-coefficients.ensures.is in
    record {
      summed = summed_more cs xs c.loop-i.i (whole_of c.loop-i.total) (whole_of c.product.result) (whole_of c.plus-total.result) (omega (arith, counted)) c.loop-i-test.true c.loop-i.invariant.summed product c.plus-total.ensures.whole;
      small = c.plus-total.ensures.small;
    }

pub returns : goal.returns
returns c =
    let cs = c.coefficients-coefficients.result.now in
    let xs = c.args.values.now in
    let counted = ap length c.coefficients-coefficients.ensures.is in
    let constant_fits : FitsSigned w128 c.constant.result = search rules in
    let constant : whole_of c.product-2.result ≡ c.constant.result *ℤ pos 1 = simp to_z-of_z at c.product-2.ensures.whole in
    let summed = summed_all cs xs c.loop-i.i (whole_of c.loop-i.total) (omega (arith, counted)) c.loop-i.invariant.summed in
    let same = ap (λ ys. dot ys c.args.values.now) c.coefficients-coefficients.ensures.is in
    let is : whole_of c.plus.result ≡ value (row_seen c.args.row) c.args.values.now = omega (arith, ints, c.plus.ensures.whole, constant, summed, same, c.constant.ensures.is) in
    subst (λ z. IsTrue c.is_at_most_zero.result ↔ (z ≤ℤ pos 0)) is c.is_at_most_zero.ensures

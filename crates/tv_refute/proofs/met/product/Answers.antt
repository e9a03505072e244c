use Rattle.std.proofs.Common.{arith, ◌≡◌, ◌+ℤ◌, ◌*ℤ◌, ◌^◌, pos, rules, FitsSigned}
use Rattle.std.specs.Int.{w128}
use Rattle.std.proofs.lemmas.Int.{ints, to_z-of_z, fits_signed_from_abs}
use Rattle.tv_refute.proofs.Wholes.{whole-product}
use Rattle.tv_refute.proofs.met.product.Goals as goal

pub returns-clause-whole : goal.returns-clause-whole
returns-clause-whole c =
    let coefficient = c.args.coefficient in
    let value_high = c.split-value_high.result.0 in
    let value_low = c.split-value_high.result.1 in
    let coefficient_fits : FitsSigned w128 c.args.coefficient = c.ranges.coefficient in
    let high_fits : FitsSigned w128 c.split-value_high.result.0 = search rules in
    let low_fits : FitsSigned w128 c.split-value_high.result.1 = search rules in
    let upper : c.times-upper.result ≡ coefficient *ℤ value_high = simp to_z-of_z at c.times-upper.ensures in
    let lower : c.times-lower.result ≡ coefficient *ℤ value_low = simp to_z-of_z at c.times-lower.ensures in
    let is : c.args.value ≡ (value_high *ℤ pos (2 ^ 62)) +ℤ value_low = omega (arith, ints, c.split-value_high.ensures.whole) in
    let upper_parts : coefficient *ℤ value_high ≡ (c.split-high.result.0 *ℤ pos (2 ^ 62)) +ℤ c.split-high.result.1 = omega (arith, ints, upper, c.split-high.ensures.whole) in
    let lower_parts : coefficient *ℤ value_low ≡ (c.split-carry.result.0 *ℤ pos (2 ^ 62)) +ℤ c.split-carry.result.1 = omega (arith, ints, lower, c.split-carry.ensures.whole) in
    let whole = whole-product coefficient c.args.value value_high value_low c.split-high.result.0 c.split-high.result.1 c.split-carry.result.0 c.split-carry.result.1 is upper_parts lower_parts in
    let fits_high : FitsSigned w128 c.split-high.result.0 = search rules in
    let fits_middle : FitsSigned w128 c.split-high.result.1 = search rules in
    let fits_carry : FitsSigned w128 c.split-carry.result.0 = search rules in
    let fits_low : FitsSigned w128 c.split-carry.result.1 = search rules in
    let fits_sum : FitsSigned w128 (c.split-high.result.1 +ℤ c.split-carry.result.0) = fits_signed_from_abs w128 (c.split-high.result.1 +ℤ c.split-carry.result.0) (omega (arith, ints)) in
    simp to_z-of_z whole

pub returns-clause-small : goal.returns-clause-small
returns-clause-small c = record { high = omega (arith, ints); middle = omega (arith, ints); low = omega (arith, ints) }

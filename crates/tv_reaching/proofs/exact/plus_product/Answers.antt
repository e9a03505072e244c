use Rattle.std.proofs.Common.{arith, rules, ◌+ℤ◌, FitsSigned}
use Rattle.std.specs.Int.{w64, w128}
use Rattle.std.proofs.lemmas.Int.{ints, to_z-of_z, fits_signed_from_abs}
use Rattle.tv_reaching.proofs.exact.plus_product.Goals as goal

pub returns-clause-exact : goal.returns-clause-exact
returns-clause-exact c =
    let low : FitsSigned w128 c.args.total.low = search rules in
    let high : FitsSigned w64 c.args.total.high = search rules in
    let left : FitsSigned w64 c.args.left = search rules in
    let right : FitsSigned w64 c.args.right = search rules in
    let product : FitsSigned w128 c.product.result = search rules in
    let sum : FitsSigned w128 (c.args.total.low +ℤ c.product.result) = fits_signed_from_abs w128 (c.args.total.low +ℤ c.product.result) (let x = c.args.total.small in let y = c.product.ensures.small in omega (arith, ints, x, y)) in
    let b = simp to_z-of_z at c.product.ensures.exact in
    let a = simp to_z-of_z at c.carried.ensures.exact in
    omega (arith, ints, a, b)

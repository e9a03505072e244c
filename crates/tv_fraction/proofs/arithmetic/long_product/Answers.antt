use Rattle.std.proofs.Common.{arith, ◌<◌, ◌*◌, ◌^◌, ◌*ℤ◌, unsigned_abs}
use Rattle.tv_fraction.proofs.Products.{product_below, product_is}
use Rattle.tv_fraction.proofs.arithmetic.long_product.Goals as goal

pub returns-clause-product : goal.returns-clause-product
returns-clause-product c =
    let b : unsigned_abs (c.args.a *ℤ c.args.b) < (2 ^ 40) * (2 ^ 80) = product_below c.args.a c.args.b (2 ^ 40) (2 ^ 80) c.requires.first c.requires.second in
    product_is c.args.a c.args.b c.ranges.a c.ranges.b (omega (arith, b))

pub returns-clause-bound : goal.returns-clause-bound
returns-clause-bound c =
    let b : unsigned_abs (c.args.a *ℤ c.args.b) < (2 ^ 40) * (2 ^ 80) = product_below c.args.a c.args.b (2 ^ 40) (2 ^ 80) c.requires.first c.requires.second in
    rw (product_is c.args.a c.args.b c.ranges.a c.ranges.b (omega (arith, b))) b

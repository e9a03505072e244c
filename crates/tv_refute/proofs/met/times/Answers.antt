use Rattle.std.proofs.Common.{arith, FitsSigned, ◌*ℤ◌, ◌^◌, ◌-◌}
use Rattle.std.specs.Int.{w128}
use Rattle.std.proofs.lemmas.Int.{to_z-of_z, fits_signed_mul}
use Rattle.tv_refute.proofs.met.times.Goals as goal

pub returns : goal.returns
returns c =
    let left : FitsSigned w128 c.args.coefficient = c.ranges.coefficient in
    let right : FitsSigned w128 c.args.part = c.ranges.part in
    let fits : FitsSigned w128 (c.args.coefficient *ℤ c.args.part) = fits_signed_mul w128 c.args.coefficient c.args.part (2 ^ 62 - 1) (2 ^ 65) (omega (arith, c.requires.narrow)) (omega (arith, c.requires.small)) (omega arith) in
    simp to_z-of_z

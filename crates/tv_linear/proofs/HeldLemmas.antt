-- Small numbers are within the numbers that a sum holds.
use Rattle.std.proofs.Common.{ℕ, ◌<◌, ◌^◌, arith, ℤ, pos, neg_ℤ, ◌-ℤ◌, unsigned_abs}
use Rattle.std.proofs.lemmas.Int.{ints}
use Rattle.tv_linear.specs.Fits.{IsHeld}

pub narrow_held : (z : ℤ) → unsigned_abs z < 2 ^ 62 → IsHeld z
narrow_held z h = omega (arith, h)

pub opposite_held : (z : ℤ) → unsigned_abs z < 2 ^ 62 → IsHeld (neg_ℤ z)
opposite_held z h = omega (arith, ints, h)

pub less_held : (z : ℤ) → unsigned_abs z < 2 ^ 62 → IsHeld (pos 1 -ℤ z)
less_held z h = omega (arith, ints, h)

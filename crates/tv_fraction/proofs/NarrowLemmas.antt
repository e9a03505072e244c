use Rattle.std.proofs.Common.{◌≡◌, ◌<◌, ◌^◌, ℤ, unsigned_abs, arith, w64, to_z, of_z}
use Rattle.std.specs.Int.{w128}
use Rattle.std.proofs.lemmas.Int.{ints, to_z-of_z}

-- a narrow number passes through 64 bits and through 128
pub through_64 : (v : ℤ) → unsigned_abs v < 2 ^ 40 → to_z w64 (of_z w64 v) ≡ v
through_64 v h = to_z-of_z w64 v (grind (arith, ints, h))

pub through_128 : (v : ℤ) → unsigned_abs v < 2 ^ 40 → to_z w128 (of_z w128 v) ≡ v
through_128 v h = to_z-of_z w128 v (grind (arith, ints, h))

pub to_64 : (v : ℤ) → unsigned_abs v < 2 ^ 40 → to_z w64 (of_z w64 (to_z w128 (of_z w128 v))) ≡ v
to_64 v h = rw (through_128 v h) (through_64 v h)

pub to_128 : (v : ℤ) → unsigned_abs v < 2 ^ 40 → to_z w128 (of_z w128 (to_z w64 (of_z w64 v))) ≡ v
to_128 v h = rw (through_64 v h) (through_128 v h)

use Rattle.std.proofs.Common.{◌<◌, ◌^◌, pos, ◌<ℤ◌, unsigned_abs, subst, sym, w64, to_z, of_z}
use Rattle.std.specs.Int.{w128}
use Rattle.tv_fraction.specs.Coprime.{AreCoprime}
use Rattle.tv_fraction.proofs.NarrowLemmas.{to_64}
use Rattle.tv_fraction.proofs.narrow.Narrow.new.Goals as goal

pub invariant_of-result : goal.invariant_of-result
invariant_of-result c =
    let f = c.args.fraction.now in
    let n = sym (to_64 f.numerator c.requires.0) in
    let d = sym (to_64 f.denominator c.requires.1) in
    record {
      positive = subst (λ z. pos 0 <ℤ z) d f.positive;
      reduced = subst (λ z. AreCoprime (unsigned_abs z) (unsigned_abs (to_z w64 (of_z w64 (to_z w128 (of_z w128 f.denominator)))))) n (subst (λ z. AreCoprime (unsigned_abs f.numerator) (unsigned_abs z)) d f.reduced);
      numerator_bound = subst (λ z. unsigned_abs z < 2 ^ 40) n c.requires.0;
      denominator_bound = subst (λ z. unsigned_abs z < 2 ^ 40) d c.requires.1;
    }

use Rattle.std.proofs.Common.{rules, arith, ◌≡◌, ◌<◌, ◌*◌, ◌^◌, ◌*ℤ◌, ◌<ℤ◌, ◌≤ℤ◌, unsigned_abs, subst, sym, FitsSigned, pos, ◌∙◌, ap}
use Rattle.std.specs.Int.{w128}
use mir.Val.{to_z, of_z}
use Prim.Native.Nat.{◌∣◌}
use Rattle.std.proofs.lemmas.Int.{ints, to_z-of_z, to_z_pos}
use Rattle.tv_fraction.proofs.LowestTerms.{same_signed, coprime_one}
use Rattle.tv_fraction.proofs.Fraction.new.Goals as goal

pub invariant_of-result-2 : goal.invariant_of-result-2
invariant_of-result-2 c =
    let f : FitsSigned w128 c.with_sign.result = search rules in
    let fd : unsigned_abs (to_z w128 (of_z w128 c.args.denominator)) ≡ unsigned_abs c.args.denominator = ap unsigned_abs (to_z-of_z w128 c.args.denominator c.ranges.denominator) in
    let m = c.lowest_terms-over.ensures.second_bound in
    let v = c.unsigned_abs-2.ensures.value in
    let r = c.requires.denominator_fits in
    let small : c.lowest_terms-over.result.1 < 2 ^ 127 = omega (arith, m, v, fd, r) in
    let u : to_z w128 c.lowest_terms-over.result.1 ≡ pos c.lowest_terms-over.result.1 = to_z_pos w128 c.lowest_terms-over.result.1 small in
    let p = c.lowest_terms-over.ensures.positive in
    record {
      positive = rw u (omega (arith, ints, p));
      reduced = λ d x y. c.lowest_terms-over.ensures.coprime d (subst (λ z. d ∣ z) (ap unsigned_abs (to_z-of_z w128 c.with_sign.result f) ∙ c.with_sign.ensures.magnitude) x) (subst (λ z. d ∣ z) (ap unsigned_abs u) y);
    }

pub returns-clause-value : goal.returns-clause-value
returns-clause-value c =
    let f : FitsSigned w128 c.with_sign.result = search rules in
    let fn = to_z-of_z w128 c.args.numerator c.ranges.numerator in
    let fd = to_z-of_z w128 c.args.denominator c.ranges.denominator in
    let vn = c.unsigned_abs.ensures.value ∙ ap unsigned_abs fn in
    let vd = c.unsigned_abs-2.ensures.value ∙ ap unsigned_abs fd in
    let m = c.lowest_terms-over.ensures.second_bound in
    let r = c.requires.denominator_fits in
    let small : c.lowest_terms-over.result.1 < 2 ^ 127 = omega (arith, m, vd, r) in
    let u : to_z w128 c.lowest_terms-over.result.1 ≡ pos c.lowest_terms-over.result.1 = to_z_pos w128 c.lowest_terms-over.result.1 small in
    let e : unsigned_abs c.with_sign.result * unsigned_abs c.args.denominator ≡ unsigned_abs c.args.numerator * c.lowest_terms-over.result.1 =
    (λ i. c.with_sign.ensures.magnitude i * sym vd i) ∙ c.lowest_terms-over.ensures.same_ratio ∙ ap (λ z. z * c.lowest_terms-over.result.1) vn in
    let p = c.lowest_terms-over.ensures.positive in
    let sn : c.args.numerator <ℤ pos 0 → c.with_sign.result ≤ℤ pos 0 = λ h. c.with_sign.ensures.negative (rw fn h) in
    let so : pos 0 ≤ℤ c.args.numerator → pos 0 ≤ℤ c.with_sign.result = λ h. c.with_sign.ensures.other (rw fn h) in
    (λ i. to_z-of_z w128 c.with_sign.result f i *ℤ c.args.denominator) ∙ same_signed c.with_sign.result c.args.denominator c.args.numerator (pos c.lowest_terms-over.result.1) c.requires.positive (omega (arith, ints, p)) sn so e ∙ (λ i. c.args.numerator *ℤ sym u i)

pub invariant_of-result : goal.invariant_of-result
invariant_of-result c = record {
  positive = rw (to_z-of_z w128 c.args.denominator c.ranges.denominator) c.requires.positive;
  reduced = coprime_one _ _ (ap (λ z. unsigned_abs (to_z w128 z)) c.if-denominator-eq1.true);
}

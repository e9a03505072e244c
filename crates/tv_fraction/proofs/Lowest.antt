use Rattle.std.proofs.Common.{◌≡◌, ℕ, zero, suc, ◌+◌, ◌-◌, ◌*◌, ◌/◌, ◌<◌, ◌≤◌, inl, inr, arith, ap, subst, sym, ◌∙◌, ℤ, pos, unsigned_abs}
use Rattle.std.proofs.lemmas.Int.{ints, unsigned_abs-mul}
use Rattle.std.proofs.lemmas.Bool.{cases_lt}
use Rattle.std.proofs.lemmas.Nat.Gcd.{dvd_refl, dvd-zero}
use Rattle.std.proofs.Math.Nat.{one-dvd, dvd-mul_left, dvd-mul_right, dvd-add_iff_right, dvd-sub_iff_left, mul-div_cancel', mul-dvd-mul_left, dvd_of_mul-dvd-mul_left, le_of_dvd, le_of_mul-le-mul_right, mul-le-mul_left, mul_comm}
use Prim.Native.Nat.{◌∣◌}
use Rattle.tv_fraction.specs.Coprime.{AreCoprime}
use Rattle.tv_fraction.specs.declared.Fraction.{Fraction}
use Rattle.tv_fraction.specs.Fraction.{IsRatio}

-- one step of Euclid's algorithm by a difference
coprime_less : (x y : ℕ) → y ≤ x → AreCoprime x y → AreCoprime (x - y) y
coprime_less x y le co e p q = co e ((dvd-sub_iff_left e le q).0 p) q

dvd_less : (x y d : ℕ) → y ≤ x → y ∣ x * d → y ∣ (x - y) * d
dvd_less x y d le h =
    let k : x ≡ y + (x - y) = omega arith in
    let e : x * d ≡ y * d + (x - y) * d = (let w = ap (λ z. z * d) k in omega arith) in
    (dvd-add_iff_right y (dvd-mul_right y d)).1 (subst (λ z. y ∣ z) e h)

-- what divides a product and is coprime to one factor divides the other; the sum of both numbers is below the fuel
pub divides : (fuel x y d : ℕ) → x + y < fuel → 0 < y → AreCoprime x y → y ∣ x * d → y ∣ d
divides zero x y d le some co h = absurd (omega arith)
divides (suc fuel) x y d le some co h = elim (cases_lt 0 x) [
  | inr none ↦
      let z : 0 ≡ x = omega arith in
      subst (λ k. k ∣ d) (sym (co y (subst (λ k. y ∣ k) z (dvd-zero y)) (dvd_refl y))) (one-dvd d)
  | inl more ↦ elim (cases_lt x y) [
    | inl less ↦
        let turned : y * (x * d / y) ≡ x * d = mul-div_cancel' y h in
        let inner : x ∣ x * d / y = divides fuel (y - x) x (x * d / y) (omega arith) more
        (coprime_less y x (omega arith) (λ e p q. co e q p))
        (dvd_less y x (x * d / y) (omega arith) (subst (λ k. x ∣ k) (sym turned) (dvd-mul_right x d))) in
        let both : y * x ∣ y * (x * d / y) = mul-dvd-mul_left x y inner in
        dvd_of_mul-dvd-mul_left {k = x} y more (subst (λ k. k ∣ x * d) (mul_comm y x) (subst (λ k. y * x ∣ k) turned both))
    | inr over ↦ divides fuel (x - y) y d (omega arith) some (coprime_less x y over co) (dvd_less x y d over h)
  ]
]

-- the parts of equal ratios where the first is in lowest terms
lowest_parts : (x y n d : ℕ) → 0 < y → 0 < d → AreCoprime x y → x * d ≡ n * y → (x ≤ n) × (y ≤ d)
lowest_parts x y n d some more co e =
    let h : y ∣ d = divides (x + y + 1) x y d (omega arith) some co (subst (λ k. y ∣ k) (sym e) (dvd-mul_left y n)) in
    let le : y ≤ d = le_of_dvd more h in
    let up : x * y ≤ x * d = mul-le-mul_left x le in
    let l : x * y ≤ n * y = omega (arith, e, up) in
    (le_of_mul-le-mul_right l some, le)

above_none : (d : ℤ) → (d ≡ pos 0 → ⊥) → 0 < unsigned_abs d
above_none d h = omega (arith, ints, h)

-- no other numbers with the same ratio are lesser in magnitude
pub lowest : (f : Fraction) (n d : ℤ) → IsRatio f n d → (d ≡ pos 0 → ⊥) → (unsigned_abs f.numerator ≤ unsigned_abs n) × (unsigned_abs f.denominator ≤ unsigned_abs d)
lowest f n d e h =
    let m : unsigned_abs f.numerator * unsigned_abs d ≡ unsigned_abs n * unsigned_abs f.denominator =
    sym (unsigned_abs-mul f.numerator d) ∙ ap unsigned_abs e ∙ unsigned_abs-mul n f.denominator in
    let p : 0 < unsigned_abs f.denominator = (let q = f.positive in omega (arith, ints, q)) in
    lowest_parts (unsigned_abs f.numerator) (unsigned_abs f.denominator) (unsigned_abs n) (unsigned_abs d) p (above_none d h) f.reduced m

use Rattle.std.proofs.Common.{◌≡◌, ℕ, zero, suc, ◌+◌, ◌*◌, ◌-◌, ◌/◌, ◌%◌, ◌<◌, arith, ap, refl, ◌∙◌}
use Rattle.std.specs.Ordering.{nat_cmp}
use Rattle.std.specs.declared.cmp.Ordering.TheVariants.{Less, Equal, Greater}
use Rattle.std.proofs.lemmas.Bool.Decides.{nat_tests}
use Rattle.std.proofs.Math.Nat.{mul-lt-mul_of_pos_right}

-- what a comparison answers
pub cmp_less : (x y : ℕ) → x < y → Less ≡ nat_cmp x y
cmp_less x y h = grind (arith, nat_tests)

pub cmp_greater : (x y : ℕ) → y < x → Greater ≡ nat_cmp x y
cmp_greater x y h = grind (arith, nat_tests)

pub cmp_equal : (x y : ℕ) → x ≡ y → Equal ≡ nat_cmp x y
cmp_equal x y h = grind (arith, nat_tests)

cmp_shift : (k x y : ℕ) → nat_cmp (k + x) (k + y) ≡ nat_cmp x y
cmp_shift k x y = grind (arith, nat_tests)

parts_below : (a b c d p q r s : ℕ) → a ≡ p * b + r → r < b → c ≡ q * d + s → 0 < d → p < q → a * d < c * b
parts_below a b c d p q r s ea rb ec pd pq =
    let x = ap (λ z. z * d) ea in
    let y = ap (λ z. z * b) ec in
    let m : r * d < b * d = mul-lt-mul_of_pos_right rb pd in
    let k : q ≡ suc p + (q - suc p) = omega arith in
    let w = ap (λ z. z * (d * b)) k in
    omega arith

-- a smaller whole part decides
pub below : (a b c d : ℕ) → 0 < b → 0 < d → a / b < c / d → a * d < c * b
below a b c d pb pd h = parts_below a b c d (a / b) (c / d) (a % b) (c % d) (omega arith) (omega arith) (omega arith) pd h

parts_same : (a b c d p r s : ℕ) → a ≡ p * b + r → c ≡ p * d + s → nat_cmp (a * d) (c * b) ≡ nat_cmp (d * r) (b * s)
parts_same a b c d p r s ea ec =
    let x : a * d ≡ p * b * d + d * r = ap (λ z. z * d) ea ∙ omega arith in
    let y : c * b ≡ p * b * d + b * s = ap (λ z. z * b) ec ∙ omega arith in
    (λ i. nat_cmp (x i) (y i)) ∙ cmp_shift (p * b * d) (d * r) (b * s)

-- equal whole parts leave it to the remainders
pub same : (a b c d : ℕ) → 0 < b → 0 < d → a / b ≡ c / d → nat_cmp (a * d) (c * b) ≡ nat_cmp (d * (a % b)) (b * (c % d))
same a b c d pb pd h = parts_same a b c d (a / b) (a % b) (c % d) (omega arith) (let e = ap (λ z. z * d) h in omega arith)

-- what the remainders decide where one of them is 0
pub none_left : (b d r s : ℕ) → r ≡ 0 → s ≡ 0 → Equal ≡ nat_cmp (d * r) (b * s)
none_left b d r s e f = let x = ap (λ z. d * z) e in let y = ap (λ z. b * z) f in cmp_equal (d * r) (b * s) (omega arith)

above_none : (b s : ℕ) → 0 < b → (s ≡ 0 → ⊥) → 0 < b * s
above_none zero s p n = absurd (omega arith)
above_none (suc b) zero p n = absurd (n refl)
above_none (suc b) (suc s) p n = omega arith

pub second_left : (b d r s : ℕ) → 0 < b → r ≡ 0 → (s ≡ 0 → ⊥) → Less ≡ nat_cmp (d * r) (b * s)
second_left b d r s p e n = let x = ap (λ z. d * z) e in let y = above_none b s p n in cmp_less (d * r) (b * s) (omega arith)

pub first_left : (b d r s : ℕ) → 0 < d → (r ≡ 0 → ⊥) → s ≡ 0 → Greater ≡ nat_cmp (d * r) (b * s)
first_left b d r s p n f = let x = ap (λ z. b * z) f in let y = above_none d r p n in cmp_greater (d * r) (b * s) (omega arith)

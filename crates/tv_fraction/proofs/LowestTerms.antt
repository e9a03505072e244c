use Rattle.std.proofs.Common.{◌≡◌, ℕ, zero, suc, ◌*◌, ◌/◌, ◌<◌, ◌≤◌, arith, ap, subst, ℤ, pos, negsuc, neg_ℤ, ◌*ℤ◌, ◌≤ℤ◌, ◌<ℤ◌, unsigned_abs}
use Rattle.std.specs.Int.{IsGcd}
use Rattle.std.proofs.lemmas.Int.{ints}
use Prim.Native.Nat.{◌∣◌}
use Rattle.std.proofs.Math.Nat.{div-mul_cancel, mul-dvd-mul_right, le_of_dvd, pos_of_dvd_of_pos, le_of_mul-le-mul_right}
use Rattle.tv_fraction.specs.Coprime.{AreCoprime}

-- what division by the greatest common divisor leaves
pub gcd_above : (a b g : ℕ) → 0 < b → IsGcd a b g → 0 < g
gcd_above a b g p h = pos_of_dvd_of_pos h.1 p

cross : (p q g a b : ℕ) → p * g ≡ a → q * g ≡ b → p * b ≡ a * q
cross p q g a b e f = let x = ap (λ z. p * z) f in let y = ap (λ z. z * q) e in omega arith

pub lowest_same : (a b g : ℕ) → IsGcd a b g → a / g * b ≡ a * (b / g)
lowest_same a b g h = cross (a / g) (b / g) g a b (div-mul_cancel g h.0) (div-mul_cancel g h.1)

above : (q g b : ℕ) → q * g ≡ b → 0 < b → 0 < q
above zero g b e p = absurd (omega arith)
above (suc q) g b e p = omega arith

pub lowest_above : (a b g : ℕ) → 0 < b → IsGcd a b g → 0 < b / g
lowest_above a b g p h = above (b / g) g b (div-mul_cancel g h.1) p

pub lowest_coprime : (a b g : ℕ) → 0 < b → IsGcd a b g → AreCoprime (a / g) (b / g)
lowest_coprime a b g p h d x y =
    let k : 0 < g = gcd_above a b g p h in
    let dg : d * g ∣ g = h.2 (d * g) (subst (λ z. d * g ∣ z) (div-mul_cancel g h.0) (mul-dvd-mul_right d x g)) (subst (λ z. d * g ∣ z) (div-mul_cancel g h.1) (mul-dvd-mul_right d y g)) in
    let l : d * g ≤ 1 * g = omega (arith, le_of_dvd k dg) in
    let m : d ≤ 1 = le_of_mul-le-mul_right l k in
    let n : 0 < d = pos_of_dvd_of_pos y (lowest_above a b g p h) in
    omega arith

-- an equation of magnitudes, where the signs agree
pub same_signed : (x d n e : ℤ) → pos 0 <ℤ d → pos 0 <ℤ e → (n <ℤ pos 0 → x ≤ℤ pos 0) → (pos 0 ≤ℤ n → pos 0 ≤ℤ x) → unsigned_abs x * unsigned_abs d ≡ unsigned_abs n * unsigned_abs e → x *ℤ d ≡ n *ℤ e
same_signed x (negsuc d) n e p q h k s = absurd (omega (arith, ints, p))
same_signed x (pos d) n (negsuc e) p q h k s = absurd (omega (arith, ints, q))
same_signed (pos x) (pos d) (pos n) (pos e) p q h k s = ap pos s
same_signed (negsuc x) (pos d) (negsuc n) (pos e) p q h k s = ap (λ z. neg_ℤ (pos z)) s
same_signed (negsuc x) (pos d) (pos n) (pos e) p q h k s = absurd (omega (arith, ints, k (omega (arith, ints))))
same_signed (pos zero) (pos d) (negsuc n) (pos zero) p q h k s = absurd (omega (arith, ints, q))
same_signed (pos zero) (pos d) (negsuc n) (pos (suc e)) p q h k s = absurd (omega (arith, ints))
same_signed (pos (suc x)) (pos d) (negsuc n) (pos e) p q h k s = absurd (omega (arith, ints, h (omega (arith, ints))))

divides_one : (d : ℕ) → d ∣ 1 → d ≡ 1
divides_one d h = (let l : d ≤ 1 = le_of_dvd (omega arith) h in let p : 0 < d = pos_of_dvd_of_pos h (omega arith) in omega (arith, l, p))

-- integers are in lowest terms, and so are two numbers whose greatest common divisor is 1
pub coprime_one : (a b : ℕ) → b ≡ 1 → AreCoprime a b
coprime_one a b e d x y = divides_one d (subst (λ z. d ∣ z) e y)

pub coprime_gcd : (a b g : ℕ) → IsGcd a b g → g ≡ 1 → AreCoprime a b
coprime_gcd a b g h e d x y = divides_one d (subst (λ z. d ∣ z) e (h.2 d x y))

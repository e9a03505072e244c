use Rattle.std.proofs.Common.{◌≡◌, ◌↔◌, ℕ, zero, suc, ◌/◌, ◌<◌, ◌∙◌, List, [], ◌∷◌, map, refl, sym, ap, arith, ℤ, pos, negsuc, neg_ℤ, ◌+ℤ◌, ◌*ℤ◌, ◌≤ℤ◌, subst, inl, inr}
use Prim.Native.Nat.{◌∣◌}
use Rattle.std.specs.Prelude.{unsigned_abs, All, ◌<ℤ◌, Result, Ok, Err, IfOk}
use Rattle.std.specs.Int.{int_div_euclid}
use Rattle.std.proofs.lemmas.Int.{ints}
use Rattle.tv_linear.specs.Linear.{Linear, dot, IsMet}
use Rattle.tv_linear.specs.Tight.{divisor, rounded_up, divided, divided_unless_zero, tight, IsTightened}
use Rattle.tv_linear.proofs.Euclid.{AllMultiples, divisor_from-multiples, divisor_from-greatest}
use Rattle.std.proofs.lemmas.Nat.Gcd.{mod-eq-zero_of_dvd, dvd-zero}
use Rattle.std.proofs.Math.Nat.{eq-zero_of_zero-dvd}
use Rattle.std.proofs.lemmas.List.Elements.{All-nil, All-cons, All-head, All-tail}
use Rattle.tv_linear.proofs.Ring.{mul_assoc_z, distribute_z, neg_times_z}
use Rattle.std.proofs.Math.IntN.{*ℤ_comm}

-- the quotient by a natural number, rounded down
pub floor-bounds : (g : ℕ) (z : ℤ) → 0 < g → ((pos g *ℤ int_div_euclid z (pos g)) ≤ℤ z) × (z <ℤ (pos g *ℤ int_div_euclid z (pos g) +ℤ pos g))
floor-bounds g (pos n) h = (omega (arith, ints), omega (arith, ints))
floor-bounds g (negsuc n) h = (omega (arith, ints), omega (arith, ints))

pub times_neg : (a b : ℤ) → a *ℤ neg_ℤ b ≡ neg_ℤ (a *ℤ b)
times_neg a b = *ℤ_comm a (neg_ℤ b) ∙ neg_times_z b a ∙ ap neg_ℤ (*ℤ_comm b a)

-- g times the rounded quotient is at least z, by less than g
pub rounded_up-bounds : (g : ℕ) (z : ℤ) → 0 < g → (z ≤ℤ (pos g *ℤ rounded_up g z)) × ((pos g *ℤ rounded_up g z) <ℤ (z +ℤ pos g))
rounded_up-bounds g z h =
    let b = floor-bounds g (neg_ℤ z) h in
    let q = int_div_euclid (neg_ℤ z) (pos g) in
    let turn : pos g *ℤ neg_ℤ q ≡ neg_ℤ (pos g *ℤ q) = times_neg (pos g) q in
    (omega (arith, ints, b.0, turn), omega (arith, ints, b.1, turn))

below_zero : (g : ℕ) (z : ℤ) → 0 < g → (pos g *ℤ z) <ℤ pos g → z ≤ℤ pos 0
below_zero g z h k = grind (arith, ints)

above_zero : (g : ℕ) (z : ℤ) → 0 < g → pos 0 ≤ℤ (pos g *ℤ z) → pos 0 ≤ℤ z
above_zero g z h k = grind (arith, ints)

pub times_at_most : (g : ℕ) (z : ℤ) → z ≤ℤ pos 0 → (pos g *ℤ z) ≤ℤ pos 0
times_at_most g z k = grind (arith, ints)

-- a multiple of g, as a product
multiple_is : (g : ℕ) (z : ℤ) → 0 < g → g ∣ unsigned_abs z → (m : ℤ) × (z ≡ pos g *ℤ m)
multiple_is g (pos n) h d = (pos (n / g), let e = mod-eq-zero_of_dvd g d in omega (arith, ints, e))
multiple_is g (negsuc n) h d =
    let e = mod-eq-zero_of_dvd g d in
    let is : negsuc n ≡ neg_ℤ (pos g *ℤ pos (suc n / g)) = omega (arith, ints, e) in
    (neg_ℤ (pos (suc n / g)), is ∙ sym (times_neg (pos g) (pos (suc n / g))))

-- a multiple of g is g times its quotient
pub rounded_up-multiple : (g : ℕ) (z : ℤ) → 0 < g → g ∣ unsigned_abs z → pos g *ℤ rounded_up g z ≡ z
rounded_up-multiple g z h d =
    let m = multiple_is g z h d in
    let q = rounded_up g z in
    let b = rounded_up-bounds g z h in
    let apart : pos g *ℤ (q +ℤ neg_ℤ m.0) ≡ pos g *ℤ q +ℤ pos g *ℤ neg_ℤ m.0 = distribute_z (pos g) q (neg_ℤ m.0) in
    let turn : pos g *ℤ neg_ℤ m.0 ≡ neg_ℤ (pos g *ℤ m.0) = times_neg (pos g) m.0 in
    let is = m.1 in
    let low = above_zero g (q +ℤ neg_ℤ m.0) h (omega (arith, ints, b.0, apart, turn, is)) in
    let high = below_zero g (q +ℤ neg_ℤ m.0) h (omega (arith, ints, b.1, apart, turn, is)) in
    let same : q ≡ m.0 = omega (arith, ints, low, high) in
    ap (λ y. pos g *ℤ y) same ∙ sym is

pub dot-divided : (g : ℕ) (cs xs : List ℤ) → 0 < g → AllMultiples g cs → dot cs xs ≡ pos g *ℤ dot (map (rounded_up g) cs) xs
dot-divided g [] xs h k = omega (arith, ints)
dot-divided g (c ∷ cs) [] h k = omega (arith, ints)
dot-divided g (c ∷ cs) (x ∷ xs) h k =
    let here = ap (λ y. y *ℤ x) (rounded_up-multiple g c h k.0) in
    let assoc = mul_assoc_z (pos g) (rounded_up g c) x in
    let later = dot-divided g cs xs h k.1 in
    let spread = distribute_z (pos g) (rounded_up g c *ℤ x) (dot (map (rounded_up g) cs) xs) in
    omega (arith, ints, here, assoc, later, spread)

pub divided-met : (g : ℕ) (r : Linear) (xs : List ℤ) → 0 < g → AllMultiples g r.coefficients → IsMet xs (divided g r) ↔ IsMet xs r
divided-met g r xs h k =
    let m = dot (map (rounded_up g) r.coefficients) xs in
    let c = rounded_up g r.constant in
    let same = dot-divided g r.coefficients xs h k in
    let bounds = rounded_up-bounds g r.constant h in
    let spread = distribute_z (pos g) m c in (
      λ met. let e = times_at_most g (m +ℤ c) met in omega (arith, ints, e, same, bounds.0, spread),
      λ met. below_zero g (m +ℤ c) h (omega (arith, ints, met, same, bounds.1, spread)),
    )

-- the same integer points meet the tightened row
pub tight-met : (r : Linear) (xs : List ℤ) → IsMet xs (tight r) ↔ IsMet xs r
tight-met r xs = by_divisor (divisor r.coefficients) (divisor_from-multiples 0 r.coefficients) where
  by_divisor : (g : ℕ) → AllMultiples g r.coefficients → IsMet xs (divided_unless_zero g r) ↔ IsMet xs r
  by_divisor zero k = (λ met. met, λ met. met)
  by_divisor (suc g) k = divided-met (suc g) r xs (omega arith) k

pub tight-of_zero : (r s : Linear) → divisor r.coefficients ≡ 0 → s ≡ r → s ≡ tight r
tight-of_zero r s e is = is ∙ sym (ap (λ n. divided_unless_zero n r) e)

pub tight-same_points : (r t : Linear) → t ≡ tight r → (xs : List ℤ) → IsMet xs t ↔ IsMet xs r
tight-same_points r t is xs = subst (λ s. IsMet xs s ↔ IsMet xs r) (sym is) (tight-met r xs)

-- ---- what tightening does, by divisibility
multiples_from : (e : ℕ) (cs : List ℤ) → All (λ c. e ∣ unsigned_abs c) cs → AllMultiples e cs
multiples_from e [] h = tt
multiples_from e (c ∷ cs) h = (
  All-head (λ c. e ∣ unsigned_abs c) c cs h,
  multiples_from e cs (All-tail (λ c. e ∣ unsigned_abs c) c cs h),
)

zero_magnitude : (c : ℤ) → unsigned_abs c ≡ 0 → c ≡ pos 0
zero_magnitude c h = omega (arith, ints)

zeros_from : (cs : List ℤ) → AllMultiples 0 cs → All (λ c. c ≡ pos 0) cs
zeros_from [] h = All-nil (λ c. c ≡ pos 0)
zeros_from (c ∷ cs) h = All-cons (λ c. c ≡ pos 0) c cs (zero_magnitude c (eq-zero_of_zero-dvd h.0)) (zeros_from cs h.1)

map-rounded_up : (g : ℕ) (cs : List ℤ) → 0 < g → AllMultiples g cs → cs ≡ map (λ c. pos g *ℤ c) (map (rounded_up g) cs)
map-rounded_up g [] h k = refl
map-rounded_up g (c ∷ cs) h k = (λ i. sym (rounded_up-multiple g c h k.0) i ∷ map-rounded_up g cs h k.1 i)

tight-divided : (r : Linear) (g : ℕ) → divisor r.coefficients ≡ g → AllMultiples g r.coefficients → IsTightened r (divided_unless_zero g r)
tight-divided r zero e k = inl (record { zeros = zeros_from r.coefficients k; same = refl })
tight-divided r (suc g) e k =
    let bounds = rounded_up-bounds (suc g) r.constant (omega arith) in
    inr (
      suc g,
      record {
        positive = omega arith;
        coefficients = map-rounded_up (suc g) r.coefficients (omega arith) k;
        greatest = λ d all. subst (λ n. d ∣ n) e (divisor_from-greatest d 0 r.coefficients (dvd-zero d) (multiples_from d r.coefficients all));
        at_least = bounds.0;
        by_less = bounds.1;
      },
    )

pub tight-tightened : (r t : Linear) → t ≡ tight r → IsTightened r t
tight-tightened r t is =
    subst (IsTightened r) (sym is) (tight-divided r (divisor r.coefficients) refl (divisor_from-multiples 0 r.coefficients))

-- a copy is tightened where no coefficient is other than 0
pub tight-copied : {E : Type 0} (r : Linear) (o : Result Linear E) → divisor r.coefficients ≡ 0 → IfOk o (λ t. t ≡ r) → IfOk o (IsTightened r)
tight-copied r (Ok t) none e = tight-tightened r t (tight-of_zero r t none e)
tight-copied r (Err fault) none e = tt

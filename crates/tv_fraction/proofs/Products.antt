use Rattle.std.proofs.Common.{◌≡◌, ℕ, zero, suc, ◌+◌, ◌*◌, ◌^◌, ◌<◌, ◌≤◌, arith, ap, refl, sym, ◌∙◌, ℤ, pos, negsuc, neg_ℤ, ◌-ℤ◌, ◌*ℤ◌, ◌<ℤ◌, unsigned_abs, FitsSigned}
use Rattle.std.specs.Int.{w128}
use mir.Val.{to_z, of_z}
use Rattle.std.proofs.lemmas.Int.{ints, to_z-of_z, unsigned_abs-mul, fits_signed_from_abs}
use Rattle.std.proofs.lemmas.Nat.{mul-lt}

-- a product is below the product of the bounds
pub product_below : (a b : ℤ) (m n : ℕ) → unsigned_abs a < m → unsigned_abs b < n → unsigned_abs (a *ℤ b) < m * n
product_below a b m n h k = rw unsigned_abs-mul (mul-lt (unsigned_abs a) (unsigned_abs b) m n h k)

-- the product that the code computes
pub product_is : (a b : ℤ) → FitsSigned w128 a → FitsSigned w128 b → unsigned_abs (a *ℤ b) < 2 ^ 127 → to_z w128 (of_z w128 (to_z w128 (of_z w128 a) *ℤ to_z w128 (of_z w128 b))) ≡ a *ℤ b
product_is a b f g h = (λ i. to_z w128 (of_z w128 (to_z-of_z w128 a f i *ℤ to_z-of_z w128 b g i))) ∙ to_z-of_z w128 (a *ℤ b) (fits_signed_from_abs w128 (a *ℤ b) h)

-- a difference is below the sum of the bounds
pub abs_sub_below : (a b : ℤ) (m n : ℕ) → unsigned_abs a < m → unsigned_abs b < n → unsigned_abs (a -ℤ b) < m + n
abs_sub_below a b m n h k = omega (arith, ints)

-- a product of numbers above 0 is above 0
pub product_above : (a b : ℤ) → pos 0 <ℤ a → pos 0 <ℤ b → pos 0 <ℤ (a *ℤ b)
product_above (negsuc a) b h k = absurd (omega (arith, ints, h))
product_above (pos a) (negsuc b) h k = absurd (omega (arith, ints, k))
product_above (pos zero) (pos b) h k = absurd (omega (arith, ints, h))
product_above (pos (suc a)) (pos zero) h k = absurd (omega (arith, ints, k))
product_above (pos (suc a)) (pos (suc b)) h k = omega (arith, ints)

-- a product of numbers that were written and read back
pub product_back : (r a b : ℤ) → FitsSigned w128 a → FitsSigned w128 b → r ≡ to_z w128 (of_z w128 a) *ℤ to_z w128 (of_z w128 b) → r ≡ a *ℤ b
product_back r a b f g e = e ∙ (λ i. to_z-of_z w128 a f i *ℤ to_z-of_z w128 b g i)

-- the difference that the code computes
pub difference_is : (a b : ℤ) → FitsSigned w128 a → FitsSigned w128 b → unsigned_abs (a -ℤ b) < 2 ^ 127 → to_z w128 (of_z w128 (to_z w128 (of_z w128 a) -ℤ to_z w128 (of_z w128 b))) ≡ a -ℤ b
difference_is a b f g h = (λ i. to_z w128 (of_z w128 (to_z-of_z w128 a f i -ℤ to_z-of_z w128 b g i))) ∙ to_z-of_z w128 (a -ℤ b) (fits_signed_from_abs w128 (a -ℤ b) h)

-- the negation that the code computes
pub negation_is : (a : ℤ) → FitsSigned w128 a → unsigned_abs a < 2 ^ 127 → to_z w128 (of_z w128 (pos 0 -ℤ to_z w128 (of_z w128 a))) ≡ neg_ℤ a
negation_is a f h = ap (λ z. to_z w128 (of_z w128 (pos 0 -ℤ z))) (to_z-of_z w128 a f) ∙ omega (arith, ints)

-- what is no greater than the negation that the code computes
pub negated_below : (r a : ℤ) (m : ℕ) → FitsSigned w128 a → unsigned_abs a < m → m ≤ 2 ^ 127 → unsigned_abs r ≤ unsigned_abs (to_z w128 (of_z w128 (pos 0 -ℤ to_z w128 (of_z w128 a)))) → unsigned_abs r < m
negated_below r a m f h b l =
    let x = ap unsigned_abs (negation_is a f (omega (arith, h, b))) in
    let y : unsigned_abs (neg_ℤ a) ≡ unsigned_abs a = omega (arith, ints) in
    omega (arith, x, y, h, l)

-- both parts of a ratio may be negated
pub both_negative : (r u o d : ℤ) → r *ℤ neg_ℤ u ≡ neg_ℤ o *ℤ d → r *ℤ u ≡ o *ℤ d
both_negative r u o d e = grind (arith, ints, e)

-- a product of numbers other than 0 is not 0
pub not_none : (a b : ℤ) → pos 0 <ℤ a → (b ≡ pos 0 → ⊥) → (a *ℤ b ≡ pos 0 → ⊥)
not_none (negsuc a) b h k e = absurd (omega (arith, ints, h))
not_none (pos zero) b h k e = absurd (omega (arith, ints, h))
not_none (pos (suc a)) (pos zero) h k e = k refl
not_none (pos (suc a)) (pos (suc b)) h k e = absurd (omega (arith, ints, e))
not_none (pos (suc a)) (negsuc b) h k e = absurd (omega (arith, ints, e))

-- a difference of integers as one of fractions
pub whole_difference : (f g a d c e q h : ℤ) → d ≡ pos 1 → e ≡ pos 1 → h ≡ pos 1 → f *ℤ pos 1 ≡ (a -ℤ c *ℤ q) *ℤ g → f *ℤ (d *ℤ (e *ℤ h)) ≡ (a *ℤ (e *ℤ h) -ℤ (c *ℤ q) *ℤ d) *ℤ g
whole_difference f g a d c e q h x y z same =
    let under : e *ℤ h ≡ pos 1 = (λ i. y i *ℤ z i) ∙ (let o : pos 1 *ℤ pos 1 ≡ pos 1 = omega (arith, ints) in o) in
    let all : d *ℤ (e *ℤ h) ≡ pos 1 = (λ i. x i *ℤ under i) ∙ (let o : pos 1 *ℤ pos 1 ≡ pos 1 = omega (arith, ints) in o) in
    let first : a *ℤ (e *ℤ h) ≡ a = ap (λ w. a *ℤ w) under ∙ (let o : a *ℤ pos 1 ≡ a = omega (arith, ints) in o) in
    let second : (c *ℤ q) *ℤ d ≡ c *ℤ q = ap (λ w. (c *ℤ q) *ℤ w) x ∙ (let o : (c *ℤ q) *ℤ pos 1 ≡ c *ℤ q = omega (arith, ints) in o) in
    ap (λ w. f *ℤ w) all ∙ same ∙ ap (λ w. w *ℤ g) (λ i. sym first i -ℤ sym second i)

use Rattle.std.proofs.Common.{◌≡◌, zero, suc, ◌⊎◌, inl, inr, ℤ, pos, negsuc, ◌+ℤ◌, ◌-ℤ◌, ◌*ℤ◌, ◌≤ℤ◌, ◌<ℤ◌, arith, ap, ◌∙◌, refl, sym}
use Rattle.std.proofs.lemmas.Int.{ints}
use Rattle.std.proofs.Math.IntN.{*ℤ_comm}
use Rattle.tv_linear.proofs.Ring.{mul_assoc_z, distribute_right_z}
use Rattle.tv_fraction.proofs.Products.{product_above}

pub mul_swap : (a b c : ℤ) → a *ℤ (b *ℤ c) ≡ b *ℤ (a *ℤ c)
mul_swap a b c = sym (mul_assoc_z a b c) ∙ ap (λ z. z *ℤ c) (*ℤ_comm a b) ∙ mul_assoc_z b a c

pub less_times : (a b c : ℤ) → (a -ℤ b) *ℤ c ≡ a *ℤ c -ℤ b *ℤ c
less_times a b c =
    let e : a ≡ (a -ℤ b) +ℤ b = omega (arith, ints) in
    let d = distribute_right_z (a -ℤ b) b c in
    let f = ap (λ z. z *ℤ c) e in
    omega (arith, ints, d, f)

pub times_less : (a b c : ℤ) → a *ℤ (b -ℤ c) ≡ a *ℤ b -ℤ a *ℤ c
times_less a b c = *ℤ_comm a (b -ℤ c) ∙ less_times b c a ∙ (λ i. *ℤ_comm b a i -ℤ *ℤ_comm c a i)

pub under_times : (a b : ℤ) → a <ℤ pos 0 → pos 0 <ℤ b → (a *ℤ b) <ℤ pos 0
under_times a b h k = grind (arith, ints)

pub not_under_times : (a b : ℤ) → pos 0 ≤ℤ a → pos 0 ≤ℤ b → pos 0 ≤ℤ (a *ℤ b)
not_under_times a b h k = grind (arith, ints)

pub times_zero : (a b : ℤ) → b ≡ pos 0 → a *ℤ b ≡ pos 0
times_zero a b e = ap (λ z. a *ℤ z) e ∙ omega (arith, ints)

pub zero_times : (a b : ℤ) → a ≡ pos 0 → a *ℤ b ≡ pos 0
zero_times a b e = ap (λ z. z *ℤ b) e ∙ omega (arith, ints)

pub one_times_z : (z : ℤ) → pos 1 *ℤ z ≡ z
one_times_z z = omega (arith, ints)

pub by_sign : (v : ℤ) → (v <ℤ pos 0) ⊎ ((v ≡ pos 0) ⊎ (pos 0 <ℤ v))
by_sign (pos zero) = inr (inl refl)
by_sign (pos (suc n)) = inr (inr (omega (arith, ints)))
by_sign (negsuc n) = inl (omega (arith, ints))

pub is_zero : (a v : ℤ) → pos 0 <ℤ a → a *ℤ v ≡ pos 0 → v ≡ pos 0
is_zero a v h e = elim (by_sign v) [
  | inl n ↦ (let k = under_times v a n h in let c = *ℤ_comm a v in absurd (omega (arith, ints, k, c, e)))
  | inr w ↦ elim w [
    | inl z ↦ z
    | inr p ↦ (let k = product_above a v h p in absurd (omega (arith, ints, k, e)))
  ]
]

pub same_factor : (a v w : ℤ) → pos 0 <ℤ a → a *ℤ v ≡ a *ℤ w → v ≡ w
same_factor a v w h e =
    let d = times_less a v w in
    let z = is_zero a (v -ℤ w) h (omega (arith, ints, d, e)) in
    omega (arith, ints, z)

pub is_above : (a v : ℤ) → pos 0 <ℤ a → pos 0 <ℤ (a *ℤ v) → pos 0 <ℤ v
is_above a v h e = elim (by_sign v) [
  | inl n ↦ (let k = under_times v a n h in let c = *ℤ_comm a v in absurd (omega (arith, ints, k, c, e)))
  | inr w ↦ elim w [
    | inl z ↦ (let k = times_zero a v z in absurd (omega (arith, ints, k, e)))
    | inr p ↦ p
  ]
]

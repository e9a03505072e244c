use Rattle.std.proofs.Common.{◌≡◌, ℕ, zero, suc, inl, inr, ◌+◌, ◌<◌, ◌≤◌, arith, refl, sym, ap, ◌∙◌, ℤ, pos, ◌+ℤ◌, ◌-ℤ◌, ◌*ℤ◌}
use Rattle.std.proofs.lemmas.Int.{ints}
use Rattle.tv_linear.proofs.Ring.{distribute_z, mul_assoc_z}
use Rattle.tv_simplex.proofs.Ring.{less_times, zero_times}
use Rattle.tv_simplex.specs.Sums.{total, delta}
use Rattle.tv_linear.proofs.ListLaws.{same_or_below}

pub total-same : (n : ℕ) (f g : ℕ → ℤ) → ((k : ℕ) → k < n → f k ≡ g k) → total n f ≡ total n g
total-same zero f g h = refl
total-same (suc n) f g h =
    let here = h n (omega arith) in
    let before = total-same n f g (λ k l. h k (omega arith)) in
    omega (arith, ints, here, before)

pub total-less : (n : ℕ) (f g : ℕ → ℤ) → total n (λ k. f k -ℤ g k) ≡ total n f -ℤ total n g
total-less zero f g = refl
total-less (suc n) f g = let before = total-less n f g in omega (arith, ints, before)

pub total-add : (n : ℕ) (f g : ℕ → ℤ) → total n (λ k. f k +ℤ g k) ≡ total n f +ℤ total n g
total-add zero f g = refl
total-add (suc n) f g = let before = total-add n f g in omega (arith, ints, before)

pub total-times : (n : ℕ) (a : ℤ) (f : ℕ → ℤ) → total n (λ k. a *ℤ f k) ≡ a *ℤ total n f
total-times zero a f = omega (arith, ints)
total-times (suc n) a f =
    let before = total-times n a f in
    let d = distribute_z a (total n f) (f n) in
    omega (arith, ints, before, d)

pub total-zero : (n : ℕ) (f : ℕ → ℤ) → ((k : ℕ) → k < n → f k ≡ pos 0) → total n f ≡ pos 0
total-zero zero f h = refl
total-zero (suc n) f h =
    let here = h n (omega arith) in
    let before = total-zero n f (λ k l. h k (omega arith)) in
    omega (arith, ints, here, before)

pub total-last : (n : ℕ) (f : ℕ → ℤ) → total (n + 1) f ≡ total n f +ℤ f n
total-last n f = (let e : n + 1 ≡ suc n = omega arith in ap (λ z. total z f) e)

-- the sums of a * f - b * g, each times h
pub total-two : (n : ℕ) (a b : ℤ) (f g h : ℕ → ℤ) → total n (λ k. (a *ℤ f k -ℤ b *ℤ g k) *ℤ h k) ≡ a *ℤ total n (λ k. f k *ℤ h k) -ℤ b *ℤ total n (λ k. g k *ℤ h k)
total-two n a b f g h =
    let spread = total-same n (λ k. (a *ℤ f k -ℤ b *ℤ g k) *ℤ h k) (λ k. a *ℤ (f k *ℤ h k) -ℤ b *ℤ (g k *ℤ h k)) (λ k l. less_times (a *ℤ f k) (b *ℤ g k) (h k) ∙ (λ i. mul_assoc_z a (f k) (h k) i -ℤ mul_assoc_z b (g k) (h k) i)) in
    spread ∙ total-less n (λ k. a *ℤ (f k *ℤ h k)) (λ k. b *ℤ (g k *ℤ h k)) ∙ (λ i. total-times n a (λ k. f k *ℤ h k) i -ℤ total-times n b (λ k. g k *ℤ h k) i)

-- two sums change places
pub total-swap : (n m : ℕ) (f : ℕ → ℕ → ℤ) → total n (λ i. total m (λ k. f i k)) ≡ total m (λ k. total n (λ i. f i k))
total-swap zero m f = sym (total-zero m (λ k. pos 0) (λ k l. refl))
total-swap (suc n) m f =
    let before = total-swap n m f in
    let e = total-add m (λ k. total n (λ i. f i k)) (λ k. f n k) in
    omega (arith, ints, before, e)

pub delta-same : (i : ℕ) → delta i i ≡ pos 1
delta-same zero = refl
delta-same (suc i) = delta-same i

pub delta-other : (i j : ℕ) → (i ≡ j → ⊥) → delta i j ≡ pos 0
delta-other zero zero h = absurd (h refl)
delta-other zero (suc j) h = refl
delta-other (suc i) zero h = refl
delta-other (suc i) (suc j) h = delta-other i j (λ e. h (ap suc e))

pub delta-below : (i j : ℕ) → i < j → delta i j ≡ pos 0
delta-below i j h = delta-other i j (λ e. absurd (omega arith))

pub delta-above : (i j : ℕ) → j < i → delta i j ≡ pos 0
delta-above i j h = delta-other i j (λ e. absurd (omega arith))

total-delta-none : (n r : ℕ) (f : ℕ → ℤ) → n ≤ r → total n (λ i. delta i r *ℤ f i) ≡ pos 0
total-delta-none n r f h = total-zero n (λ i. delta i r *ℤ f i) (λ k l. zero_times (delta k r) (f k) (delta-below k r (omega arith)))

pub total-delta : (n r : ℕ) (f : ℕ → ℤ) → r < n → total n (λ i. delta i r *ℤ f i) ≡ f r
total-delta zero r f h = absurd (omega arith)
total-delta (suc n) r f h = elim (same_or_below n r h) [
  | inl e ↦ (
      let none = total-delta-none n r f (omega arith) in
      let one = ap (λ k. delta n k *ℤ f n) e ∙ ap (λ z. z *ℤ f n) (delta-same n) in
      let f_same = ap f e in
      omega (arith, ints, none, one, f_same))
  | inr l ↦ (
      let before = total-delta n r f l in
      let none = zero_times (delta n r) (f n) (delta-above n r l) in
      omega (arith, ints, before, none))
]

pub delta-swap : (i j : ℕ) → delta i j ≡ delta j i
delta-swap zero zero = refl
delta-swap zero (suc j) = refl
delta-swap (suc i) zero = refl
delta-swap (suc i) (suc j) = delta-swap i j

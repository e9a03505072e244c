use Rattle.std.proofs.Common.{◌≡◌, ℕ, zero, suc, ◌⊎◌, inl, inr, ◌<◌, Option, None, arith, refl, ap, ◌∙◌, subst, ℤ, pos, negsuc, ◌+ℤ◌, ◌-ℤ◌, ◌*ℤ◌, ◌<ℤ◌, ◌≤ℤ◌}
use Rattle.std.proofs.lemmas.Int.{ints}
use Rattle.tv_linear.proofs.Ring.{distribute_z, not_above}
use Rattle.tv_simplex.proofs.Ring.{by_sign, times_zero, mul_swap, not_under_times, times_less}
use Rattle.tv_simplex.specs.Sums.{total}
use Rattle.tv_rank.specs.Ways.{Way}
use Rattle.tv_rank.specs.RankingSystem.{unit_at, after}
use Rattle.tv_rank.proofs.Over.{over-same, over-add, over-times}
use Rattle.tv_rank.proofs.Barriers.{value, width, row_of, Meets, there_before, there_after, before_at, after_at, Balance}
use Rattle.tv_linear.proofs.ListLaws.{same_or_below}
use Rattle.tv_simplex.proofs.GoesOn.{total-not_above}

-- a rational point of a way, over its scale
pub record IsPoint (v : ℕ) (w : Way) (p : Option ℕ → ℤ) : Type 0 where
  pub meets : Meets v w p
  pub positive : pos 0 <ℤ p None

abbrev pub change_at : ℕ → (ℕ → Option ℕ → ℤ) → Way → (Option ℕ → ℤ) → ℤ
change_at v f w p = after_at v f w p -ℤ before_at v f w p

-- the terms grow over no way, and fall over one, at all points
pub record RanksAt (v many : ℕ) (ways : ℕ → Way) (falling : ℕ) (f : ℕ → Option ℕ → ℤ) : Type 0 where
  pub grows_nowhere : (k : ℕ) → k < many → (p : Option ℕ → ℤ) → IsPoint v (ways k) p → change_at v f (ways k) p ≤ℤ pos 0
  pub bounded : (p : Option ℕ → ℤ) → IsPoint v (ways falling) p → pos 0 ≤ℤ before_at v f (ways falling) p
  pub falls : (p : Option ℕ → ℤ) → IsPoint v (ways falling) p → (change_at v f (ways falling) p +ℤ p None) ≤ℤ pos 0

-- n * a + b is at most 0 for every n of at least 0, so a is
pub ray : (a b : ℤ) → ((n : ℤ) → pos 0 ≤ℤ n → (n *ℤ a +ℤ b) ≤ℤ pos 0) → a ≤ℤ pos 0
ray a b h = elim (by_sign a) [
  | inl l ↦ omega (arith, ints)
  | inr w ↦ elim w [
    | inl e ↦ omega (arith, ints, e)
    | inr p ↦ absurd (far b p (h (size b) (size-not_under b)))
  ]
]
  where
    size : ℤ → ℤ
    size (pos k) = pos 1
    size (negsuc k) = pos (suc (suc k))

    size-not_under : (b : ℤ) → pos 0 ≤ℤ size b
    size-not_under (pos k) = omega (arith, ints)
    size-not_under (negsuc k) = omega (arith, ints)

    far : (b : ℤ) → pos 0 <ℤ a → (size b *ℤ a +ℤ b) ≤ℤ pos 0 → ⊥
    far b p k =
        let m = not_under_times (size b) (a -ℤ pos 1) (size-not_under b) (omega (arith, ints)) in
        let d = times_less (size b) a (pos 1) in
        let s = size-above b in
        absurd (omega (arith, ints, m, d, s, k))
      where
        size-above : (b : ℤ) → pos 0 <ℤ (size b +ℤ b)
        size-above (pos k) = omega (arith, ints)
        size-above (negsuc k) = omega (arith, ints)

-- ---- values at n * x + p
one-ray : (r x p n : ℤ) → r *ℤ (n *ℤ x +ℤ p) ≡ n *ℤ (r *ℤ x) +ℤ r *ℤ p
one-ray r x p n = distribute_z r (n *ℤ x) p ∙ ap (λ z. z +ℤ r *ℤ p) (mul_swap r n x)

pub value-ray : (m : ℕ) (row x p : Option ℕ → ℤ) (n : ℤ) → value m row (λ c. n *ℤ x c +ℤ p c) ≡ n *ℤ value m row x +ℤ value m row p
value-ray m row x p n =
    over-same m (λ c. row c *ℤ (n *ℤ x c +ℤ p c)) (λ c. n *ℤ (row c *ℤ x c) +ℤ row c *ℤ p c) (λ c l. one-ray (row c) (x c) (p c) n)
    ∙ over-add m (λ c. n *ℤ (row c *ℤ x c)) (λ c. row c *ℤ p c)
    ∙ ap (λ z. z +ℤ value m row p) (over-times m n (λ c. row c *ℤ x c))

pub before-ray : (v : ℕ) (f : ℕ → Option ℕ → ℤ) (w : Way) (x p : Option ℕ → ℤ) (n : ℤ) → before_at v f w (λ c. n *ℤ x c +ℤ p c) ≡ n *ℤ before_at v f w x +ℤ before_at v f w p
before-ray v f w x p n =
    over-same v (λ m. f w.taken.from m *ℤ there_before v w (λ c. n *ℤ x c +ℤ p c) m) (λ m. f w.taken.from m *ℤ (n *ℤ there_before v w x m +ℤ there_before v w p m)) (λ m l. ap (λ z. f w.taken.from m *ℤ z) (value-ray (width v w) (unit_at m) x p n))
    ∙ value-ray v (f w.taken.from) (there_before v w x) (there_before v w p) n

pub after-ray : (v : ℕ) (f : ℕ → Option ℕ → ℤ) (w : Way) (x p : Option ℕ → ℤ) (n : ℤ) → after_at v f w (λ c. n *ℤ x c +ℤ p c) ≡ n *ℤ after_at v f w x +ℤ after_at v f w p
after-ray v f w x p n =
    over-same v (λ m. f w.taken.to m *ℤ there_after v w (λ c. n *ℤ x c +ℤ p c) m) (λ m. f w.taken.to m *ℤ (n *ℤ there_after v w x m +ℤ there_after v w p m)) (λ m l. ap (λ z. f w.taken.to m *ℤ z) (value-ray (width v w) (after w.taken m) x p n))
    ∙ value-ray v (f w.taken.to) (there_after v w x) (there_after v w p) n

change-ray : (v : ℕ) (f : ℕ → Option ℕ → ℤ) (w : Way) (x p : Option ℕ → ℤ) (n : ℤ) → change_at v f w (λ c. n *ℤ x c +ℤ p c) ≡ n *ℤ change_at v f w x +ℤ change_at v f w p
change-ray v f w x p n =
    let a = after-ray v f w x p n in
    let b = before-ray v f w x p n in
    let d = times_less n (after_at v f w x) (before_at v f w x) in
    omega (arith, ints, a, b, d)

-- a ray beyond a point leads to points
pub beyond : (v : ℕ) (w : Way) (x p : Option ℕ → ℤ) → Meets v w x → x None ≡ pos 0 → IsPoint v w p → (n : ℤ) → pos 0 ≤ℤ n → IsPoint v w (λ c. n *ℤ x c +ℤ p c)
beyond v w x p h e q n l = record {
  meets = λ i i_in.
      let u = not_above n (value (width v w) (row_of w i) x) l (h i i_in) in
      let m = q.meets i i_in in
      let r = value-ray (width v w) (row_of w i) x p n in
      omega (arith, ints, u, m, r);
  positive = (let z = times_zero n (x None) e in let m = q.positive in omega (arith, ints, z, m));
}

pub zero_or_above : (z : ℤ) → pos 0 ≤ℤ z → (z ≡ pos 0) ⊎ (pos 0 <ℤ z)
zero_or_above z h = elim (by_sign z) [ inl l ↦ absurd (omega (arith, ints)) | inr w ↦ w ]

module _ (v many : ℕ) (ways : ℕ → Way) (falling : ℕ) (falling_in : falling < many) (f : ℕ → Option ℕ → ℤ) (ranks : RanksAt v many ways falling f) where
  -- the terms do not grow on a ray either
  grows_nowhere_ray : (k : ℕ) → k < many → (x p : Option ℕ → ℤ) → Meets v (ways k) x → pos 0 ≤ℤ x None → IsPoint v (ways k) p → change_at v f (ways k) x ≤ℤ pos 0
  grows_nowhere_ray k k_in x p h l q = elim (zero_or_above (x None) l) [
    | inr above ↦ ranks.grows_nowhere k k_in x (record { meets = h; positive = above })
    | inl e ↦ ray (change_at v f (ways k) x) (change_at v f (ways k) p) (λ n g. subst (λ z. z ≤ℤ pos 0) (change-ray v f (ways k) x p n) (ranks.grows_nowhere k k_in (λ c. n *ℤ x c +ℤ p c) (beyond v (ways k) x p h e q n g)))
  ]

  bounded_ray : (x p : Option ℕ → ℤ) → Meets v (ways falling) x → pos 0 ≤ℤ x None → IsPoint v (ways falling) p → pos 0 ≤ℤ before_at v f (ways falling) x
  bounded_ray x p h l q = elim (zero_or_above (x None) l) [
    | inr above ↦ ranks.bounded x (record { meets = h; positive = above })
    | inl e ↦ (
        let w = ways falling in
        let r = ray (pos 0 -ℤ before_at v f w x) (pos 0 -ℤ before_at v f w p) (λ n g.
        let u = ranks.bounded (λ c. n *ℤ x c +ℤ p c) (beyond v w x p h e q n g) in
        let b = before-ray v f w x p n in
        let d = times_less n (pos 0) (before_at v f w x) in
        let z = times_zero n (pos 0) refl in
        omega (arith, ints, u, b, d, z)) in
        omega (arith, ints, r))
  ]

-- a sum of such numbers, one of them at most -z
total-falls : (m : ℕ) (g : ℕ → ℤ) (r : ℕ) (z : ℤ) → r < m → ((k : ℕ) → k < m → g k ≤ℤ pos 0) → (g r +ℤ z) ≤ℤ pos 0 → (total m g +ℤ z) ≤ℤ pos 0
total-falls zero g r z l h e = absurd (omega arith)
total-falls (suc m) g r z l h e = elim (same_or_below m r l) [
  | inl s ↦ (
      let others = total-not_above m g (λ k q. h k (omega arith)) in
      let same = ap g s in
      omega (arith, ints, others, same, e))
  | inr q ↦ (
      let here = h m (omega arith) in
      let others = total-falls m g r z q (λ k u. h k (omega arith)) e in
      omega (arith, ints, here, others))
]

-- where each way has a point, a barrier excludes every family of terms
pub excluded : (v many : ℕ) (ways : ℕ → Way) (falling : ℕ) → falling < many → ((k : ℕ) → k < many → (p : Option ℕ → ℤ) × IsPoint v (ways k) p) → (p : ℕ → Option ℕ → ℤ) (last : Option ℕ → ℤ) → Balance v many ways falling p last → (f : ℕ → Option ℕ → ℤ) → RanksAt v many ways falling f → ⊥
excluded v many ways falling falling_in points p last b f ranks =
    let low = λ (k : ℕ) (k_in : k < many). (let q = points k k_in in grows_nowhere_ray v many ways falling falling_in f ranks k k_in (p k) q.0 (b.meets k k_in) (b.not_under k k_in) q.1) in
    let fall = ranks.falls (p falling) (record { meets = b.meets falling falling_in; positive = b.above }) in
    let sum = total-falls many (λ k. change_at v f (ways k) (p k)) falling (p falling None) falling_in low fall in
    let q = points falling falling_in in
    let high = bounded_ray v many ways falling falling_in f ranks last q.0 b.last_meets b.last_not_under q.1 in
    let e = b.balance f in
    let above = b.above in
    absurd (omega (arith, ints, sum, high, e, above))

-- Numbers that balance every tuple of terms exclude the nested ones.
use Rattle.std.proofs.Common.{◌≡◌, ℕ, zero, suc, inl, inr, ◌<◌, Option, None, arith, refl, ℤ, pos, ◌+ℤ◌, ◌-ℤ◌, ◌*ℤ◌, ◌<ℤ◌, ◌≤ℤ◌}
use Rattle.std.proofs.lemmas.Int.{ints}
use Rattle.tv_linear.proofs.Ring.{distribute_z}
use Rattle.tv_simplex.proofs.Ring.{times_zero, times_less}
use Rattle.tv_simplex.proofs.Sums.{total-add, total-less}
use Rattle.tv_simplex.proofs.GoesOn.{total-not_above}
use Rattle.tv_simplex.specs.Sums.{total}
use Rattle.tv_farkas.proofs.SystemLemmas.{total-front}
use Rattle.tv_rank.specs.Ways.{Way}
use Rattle.tv_rank.proofs.Barriers.{Meets, before_at, after_at}
use Rattle.tv_rank.proofs.Excluded.{IsPoint, change_at, ray, before-ray, after-ray, beyond, zero_or_above}

-- what is linear and at most 0 at all points is so on rays too
low_on_rays : (v : ℕ) (w : Way) (g : (Option ℕ → ℤ) → ℤ) → ((x p : Option ℕ → ℤ) (n : ℤ) → g (λ c. n *ℤ x c +ℤ p c) ≡ n *ℤ g x +ℤ g p) → ((p : Option ℕ → ℤ) → IsPoint v w p → g p ≤ℤ pos 0) → (x p : Option ℕ → ℤ) → Meets v w x → pos 0 ≤ℤ x None → IsPoint v w p → g x ≤ℤ pos 0
low_on_rays v w g linear low x p h l q = elim (zero_or_above (x None) l) [
  | inr above ↦ low x (record { meets = h; positive = above })
  | inl e ↦ ray (g x) (g p) (λ n k. rw (← (linear x p n)) (low (λ c. n *ℤ x c +ℤ p c) (beyond v w x p h e q n k)))
]

-- ---- tuples at points
-- the term before the one of a number: there is none before the first
abbrev pub earlier_at : ℕ → (ℕ → ℕ → Option ℕ → ℤ) → ℕ → Way → (Option ℕ → ℤ) → ℤ
earlier_at v f zero w p = pos 0
earlier_at v f (suc j) w p = before_at v (f j) w p

-- how a term and the one before it change together, and 1 more
abbrev pub fall_at : ℕ → (ℕ → ℕ → Option ℕ → ℤ) → ℕ → Way → (Option ℕ → ℤ) → ℤ
fall_at v f j w p = (change_at v (f j) w p -ℤ earlier_at v f j w p) +ℤ p None

pub record NestedAt (v d many : ℕ) (ways : ℕ → Way) (f : ℕ → ℕ → Option ℕ → ℤ) : Type 0 where
  pub falls : (k : ℕ) → k < many → (j : ℕ) → j < d → (p : Option ℕ → ℤ) → IsPoint v (ways k) p → fall_at v f j (ways k) p ≤ℤ pos 0
  pub bounded : (k : ℕ) → k < many → (p : Option ℕ → ℤ) → IsPoint v (ways k) p → pos 0 ≤ℤ earlier_at v f d (ways k) p

-- a barrier, read as numbers for each identity of each way
pub record Balance (v d many : ℕ) (ways : ℕ → Way) (p : ℕ → ℕ → Option ℕ → ℤ) : Type 0 where
  pub meets : (k i : ℕ) → k < many → i < suc d → Meets v (ways k) (p k i)
  pub not_under : (k i : ℕ) → k < many → i < suc d → pos 0 ≤ℤ p k i None
  pub above : pos 0 <ℤ total many (λ k. total d (λ i. p k i None))
  pub balance : (f : ℕ → ℕ → Option ℕ → ℤ) → total many (λ k. total d (λ j. change_at v (f j) (ways k) (p k j) -ℤ before_at v (f j) (ways k) (p k (suc j)))) ≡ pos 0

earlier-ray : (v : ℕ) (f : ℕ → ℕ → Option ℕ → ℤ) (j : ℕ) (w : Way) (x p : Option ℕ → ℤ) (n : ℤ) → earlier_at v f j w (λ c. n *ℤ x c +ℤ p c) ≡ n *ℤ earlier_at v f j w x +ℤ earlier_at v f j w p
earlier-ray v f zero w x p n = (let z = times_zero n (pos 0) refl in omega (arith, ints, z))
earlier-ray v f (suc j) w x p n = before-ray v (f j) w x p n

fall-ray : (v : ℕ) (f : ℕ → ℕ → Option ℕ → ℤ) (j : ℕ) (w : Way) (x p : Option ℕ → ℤ) (n : ℤ) → fall_at v f j w (λ c. n *ℤ x c +ℤ p c) ≡ n *ℤ fall_at v f j w x +ℤ fall_at v f j w p
fall-ray v f j w x p n =
    let a = after-ray v (f j) w x p n in
    let b = before-ray v (f j) w x p n in
    let e = earlier-ray v f j w x p n in
    let first = distribute_z n (change_at v (f j) w x -ℤ earlier_at v f j w x) (x None) in
    let second = times_less n (change_at v (f j) w x) (earlier_at v f j w x) in
    let third = times_less n (after_at v (f j) w x) (before_at v (f j) w x) in
    omega (arith, ints, a, b, e, first, second, third)

opposite-ray : (v : ℕ) (f : ℕ → ℕ → Option ℕ → ℤ) (j : ℕ) (w : Way) (x p : Option ℕ → ℤ) (n : ℤ) → pos 0 -ℤ earlier_at v f j w (λ c. n *ℤ x c +ℤ p c) ≡ n *ℤ (pos 0 -ℤ earlier_at v f j w x) +ℤ (pos 0 -ℤ earlier_at v f j w p)
opposite-ray v f j w x p n =
    let e = earlier-ray v f j w x p n in
    let d = times_less n (pos 0) (earlier_at v f j w x) in
    let z = times_zero n (pos 0) refl in
    omega (arith, ints, e, d, z)

-- ---- the sums by terms are those by identities: the term before stands one identity on
shifted : (d : ℕ) (g : ℕ → ℤ) → g 0 ≡ pos 0 → total d (λ j. g (suc j)) ≡ total d g +ℤ g d
shifted d g e = (let f = total-front d g in omega (arith, ints, e, f))

module _ (v d many : ℕ) (ways : ℕ → Way) (f : ℕ → ℕ → Option ℕ → ℤ) (nested : NestedAt v d many ways f) (p : ℕ → ℕ → Option ℕ → ℤ) (b : Balance v d many ways p) (points : (k : ℕ) → k < many → (q : Option ℕ → ℤ) × IsPoint v (ways k) q) where
  fall_low : (k : ℕ) → k < many → (i : ℕ) → i < d → fall_at v f i (ways k) (p k i) ≤ℤ pos 0
  fall_low k k_in i i_in = (let q = points k k_in in low_on_rays v (ways k) (fall_at v f i (ways k)) (fall-ray v f i (ways k)) (nested.falls k k_in i i_in) (p k i) q.0 (b.meets k i k_in (omega (arith, i_in))) (b.not_under k i k_in (omega (arith, i_in))) q.1)

  last_low : (k : ℕ) → k < many → (pos 0 -ℤ earlier_at v f d (ways k) (p k d)) ≤ℤ pos 0
  last_low k k_in =
      let q = points k k_in in
      low_on_rays v (ways k) (λ x. pos 0 -ℤ earlier_at v f d (ways k) x) (opposite-ray v f d (ways k)) (λ x h. let l = nested.bounded k k_in x h in omega (arith, ints, l)) (p k d) q.0 (b.meets k d k_in (omega arith)) (b.not_under k d k_in (omega arith)) q.1

  -- what a way adds
  abbrev part : ℕ → ℤ
  part k = total d (λ j. change_at v (f j) (ways k) (p k j) -ℤ before_at v (f j) (ways k) (p k (suc j)))

  part_low : (k : ℕ) → k < many → (part k +ℤ total d (λ i. p k i None)) ≤ℤ pos 0
  part_low k k_in =
      let low = total-not_above d (λ i. fall_at v f i (ways k) (p k i)) (λ i i_in. fall_low k k_in i i_in) in
      let first = total-add d (λ i. change_at v (f i) (ways k) (p k i) -ℤ earlier_at v f i (ways k) (p k i)) (λ i. p k i None) in
      let second = total-less d (λ i. change_at v (f i) (ways k) (p k i)) (λ i. earlier_at v f i (ways k) (p k i)) in
      let third = total-less d (λ j. change_at v (f j) (ways k) (p k j)) (λ j. before_at v (f j) (ways k) (p k (suc j))) in
      let shift = shifted d (λ i. earlier_at v f i (ways k) (p k i)) refl in
      let last = last_low k k_in in
      omega (arith, ints, low, first, second, third, shift, last)

  pub excluded : ⊥
  excluded =
      let low = total-not_above many (λ k. part k +ℤ total d (λ i. p k i None)) part_low in
      let apart = total-add many part (λ k. total d (λ i. p k i None)) in
      let e = b.balance f in
      let above = b.above in
      absurd (omega (arith, ints, low, apart, e, above))

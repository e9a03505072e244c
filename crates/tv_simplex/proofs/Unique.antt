use Rattle.std.proofs.Common.{◌≡◌, ℕ, ◌+◌, ◌<◌, arith, sym, ap, ◌∙◌, ℤ, pos, ◌*ℤ◌}
use Rattle.std.proofs.lemmas.Int.{ints}
use Rattle.std.proofs.Math.IntN.{*ℤ_comm}
use Rattle.tv_linear.proofs.Ring.{mul_assoc_z}
use Rattle.tv_simplex.proofs.Ring.{mul_swap, is_zero, zero_times}
use Rattle.tv_simplex.proofs.Sums.{total-same, total-times, total-swap, total-zero, total-delta, delta-swap}
use Rattle.tv_simplex.specs.Sums.{total, delta}
use Rattle.tv_simplex.specs.Tableaus.{Tableau}

pub total-times_right : (n : ℕ) (f : ℕ → ℤ) (b : ℤ) → total n (λ k. f k *ℤ b) ≡ total n f *ℤ b
total-times_right n f b = total-same n (λ k. f k *ℤ b) (λ k. b *ℤ f k) (λ k l. *ℤ_comm (f k) b) ∙ total-times n b f ∙ *ℤ_comm b (total n f)

module _ (a : ℕ → ℕ → ℤ) (m n : ℕ) (b : ℕ → ℕ) (y : Tableau a m n b) (w : ℕ → ℤ) where
  -- a combination of the rows of the system is known by its numbers in the columns of the basis
  pub express : (j : ℕ) → y.scale *ℤ total m (λ k. w k *ℤ a k j) ≡ total m (λ l. total m (λ k. w k *ℤ a k (b l)) *ℤ y.entry l j)
  express j =
      sym (total-times m y.scale (λ k. w k *ℤ a k j))
      ∙ total-same m (λ k. y.scale *ℤ (w k *ℤ a k j)) (λ k. total m (λ l. (w k *ℤ a k (b l)) *ℤ y.entry l j)) row
      ∙ total-swap m m (λ k l. (w k *ℤ a k (b l)) *ℤ y.entry l j)
      ∙ total-same m (λ l. total m (λ k. (w k *ℤ a k (b l)) *ℤ y.entry l j)) (λ l. total m (λ k. w k *ℤ a k (b l)) *ℤ y.entry l j) (λ l h. total-times_right m (λ k. w k *ℤ a k (b l)) (y.entry l j))
    where
      row : (k : ℕ) → k < m → y.scale *ℤ (w k *ℤ a k j) ≡ total m (λ l. (w k *ℤ a k (b l)) *ℤ y.entry l j)
      row k h =
          let s = y.spanned k j h in
          let e : y.scale *ℤ a k j ≡ total m (λ l. y.entry l j *ℤ a k (b l)) = omega (arith, ints, s) in
          mul_swap y.scale (w k) (a k j) ∙ ap (λ z. w k *ℤ z) e
          ∙ sym (total-times m (w k) (λ l. y.entry l j *ℤ a k (b l)))
          ∙ total-same m (λ l. w k *ℤ (y.entry l j *ℤ a k (b l))) (λ l. (w k *ℤ a k (b l)) *ℤ y.entry l j) (λ l g. ap (λ z. w k *ℤ z) (*ℤ_comm (y.entry l j) (a k (b l))) ∙ sym (mul_assoc_z (w k) (a k (b l)) (y.entry l j)))

  -- one that is 0 in the columns of the basis is 0 everywhere
  pub vanish : ((l : ℕ) → l < m → total m (λ k. w k *ℤ a k (b l)) ≡ pos 0) → (j : ℕ) → total m (λ k. w k *ℤ a k j) ≡ pos 0
  vanish h j = is_zero y.scale (total m (λ k. w k *ℤ a k j)) y.positive (express j ∙ total-zero m (λ l. total m (λ k. w k *ℤ a k (b l)) *ℤ y.entry l j) (λ l g. zero_times (total m (λ k. w k *ℤ a k (b l))) (y.entry l j) (h l g)))

-- two tableaus of one basis are equal, up to their scales
pub same_tableau : (a : ℕ → ℕ → ℤ) (m n : ℕ) (b : ℕ → ℕ) (x y : Tableau a m n b) (i j : ℕ) → i < m → y.scale *ℤ x.entry i j ≡ x.scale *ℤ y.entry i j
same_tableau a m n b x y i j h =
    ap (λ z. y.scale *ℤ z) (x.combined i j h)
    ∙ express a m n b y (λ k. x.entry i (n + k)) j
    ∙ total-same m (λ l. total m (λ k. x.entry i (n + k) *ℤ a k (b l)) *ℤ y.entry l j) (λ l. x.scale *ℤ (delta l i *ℤ y.entry l j)) at_basis
    ∙ total-times m x.scale (λ l. delta l i *ℤ y.entry l j)
    ∙ ap (λ z. x.scale *ℤ z) (total-delta m i (λ l. y.entry l j) h)
  where
    at_basis : (l : ℕ) → l < m → total m (λ k. x.entry i (n + k) *ℤ a k (b l)) *ℤ y.entry l j ≡ x.scale *ℤ (delta l i *ℤ y.entry l j)
    at_basis l g = ap (λ z. z *ℤ y.entry l j) (sym (x.combined i (b l) h) ∙ x.unit i l h g ∙ ap (λ z. x.scale *ℤ z) (delta-swap i l)) ∙ mul_assoc_z x.scale (delta l i) (y.entry l j)

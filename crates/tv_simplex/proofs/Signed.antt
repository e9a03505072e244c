use Rattle.std.proofs.Common.{◌≡◌, ℕ, ◌+◌, ◌<◌, Bool, true, false, cond, arith, refl, sym, ap, ◌∙◌, subst, ℤ, pos, neg_ℤ, ◌*ℤ◌, ◌<ℤ◌, ◌≤ℤ◌}
use Rattle.std.proofs.lemmas.Int.{ints}
use Rattle.std.proofs.lemmas.Bool.Decides.{nat_tests}
use Rattle.std.specs.Prelude.{nat_lt, int_lt}
use Rattle.tv_linear.proofs.Ring.{mul_assoc_z}
use Rattle.tv_simplex.proofs.Ring.{mul_swap}
use Rattle.tv_simplex.proofs.Sums.{total-same, total-times}
use Rattle.tv_simplex.specs.Sums.{total, delta}
use Rattle.tv_simplex.specs.Answers.{IsBarrier, IsSolution}
use Rattle.tv_simplex.specs.Systems.{Equations, right_at, entry_at, sign, matrix}
use Rattle.tv_simplex.proofs.Matrices.{matrix-right_is}

pub matrix-entry : (s : Equations) (k j : ℕ) → j < s.columns → matrix s k j ≡ sign s k *ℤ entry_at s k j
matrix-entry s k j h = at (nat_lt j s.columns) (grind (arith, nat_tests))
  where
    at : (p : Bool) → p ≡ true → cond p (sign s k *ℤ entry_at s k j) (cond (nat_lt j (s.columns + s.rows)) (delta (s.columns + k) j) (sign s k *ℤ right_at s k)) ≡ sign s k *ℤ entry_at s k j
    at true e = refl
    at false e = cc

pub sign-twice : (s : Equations) (k : ℕ) → sign s k *ℤ sign s k ≡ pos 1
sign-twice s k = at (int_lt (right_at s k) (pos 0))
  where
    at : (p : Bool) → cond p (neg_ℤ (pos 1)) (pos 1) *ℤ cond p (neg_ℤ (pos 1)) (pos 1) ≡ pos 1
    at true = refl
    at false = refl

-- the sum of the rows of the system with signs, with the signs taken back
pub sums_back : (s : Equations) (y : ℕ → ℤ) (f : ℕ → ℤ) → total s.rows (λ k. y k *ℤ (sign s k *ℤ f k)) ≡ total s.rows (λ k. (sign s k *ℤ y k) *ℤ f k)
sums_back s y f = total-same s.rows (λ k. y k *ℤ (sign s k *ℤ f k)) (λ k. (sign s k *ℤ y k) *ℤ f k) (λ k l. mul_swap (y k) (sign s k) (f k) ∙ sym (mul_assoc_z (sign s k) (y k) (f k)))

-- a barrier of the system with signs, with the signs taken back
pub barrier_columns : (s : Equations) (y : ℕ → ℤ) → IsBarrier (matrix s) s.rows s.columns y → (j : ℕ) → j < s.columns → pos 0 ≤ℤ total s.rows (λ k. (sign s k *ℤ y k) *ℤ entry_at s k j)
barrier_columns s y b j l = subst (λ z. pos 0 ≤ℤ z) (total-same s.rows (λ k. y k *ℤ matrix s k j) (λ k. y k *ℤ (sign s k *ℤ entry_at s k j)) (λ k k_in. ap (λ z. y k *ℤ z) (matrix-entry s k j l)) ∙ sums_back s y (λ k. entry_at s k j)) (b.not_under j l)

pub barrier_below : (s : Equations) (y : ℕ → ℤ) → IsBarrier (matrix s) s.rows s.columns y → total s.rows (λ k. (sign s k *ℤ y k) *ℤ right_at s k) <ℤ pos 0
barrier_below s y b = subst (λ z. z <ℤ pos 0) (total-same s.rows (λ k. y k *ℤ matrix s k (s.columns + s.rows)) (λ k. y k *ℤ (sign s k *ℤ right_at s k)) (λ k k_in. ap (λ z. y k *ℤ z) (matrix-right_is s k)) ∙ sums_back s y (right_at s)) b.below

-- and a solution
pub solution_back : (s : Equations) (values : ℕ → ℤ) (scale : ℤ) → IsSolution (matrix s) s.rows s.columns values scale → (k : ℕ) → k < s.rows → total s.columns (λ j. entry_at s k j *ℤ values j) ≡ scale *ℤ right_at s k
solution_back s values scale h k k_in =
    let g = sign s k in
    let e : g *ℤ total s.columns (λ j. entry_at s k j *ℤ values j) ≡ g *ℤ (scale *ℤ right_at s k) =
    sym (total-times s.columns g (λ j. entry_at s k j *ℤ values j))
    ∙ total-same s.columns (λ j. g *ℤ (entry_at s k j *ℤ values j)) (λ j. matrix s k j *ℤ values j) (λ j l. sym (mul_assoc_z g (entry_at s k j) (values j)) ∙ ap (λ z. z *ℤ values j) (sym (matrix-entry s k j l)))
    ∙ h.met k k_in ∙ ap (λ z. scale *ℤ z) (matrix-right_is s k) ∙ mul_swap scale g (right_at s k) in
    undo (total s.columns (λ j. entry_at s k j *ℤ values j)) ∙ ap (λ z. g *ℤ z) e ∙ sym (undo (scale *ℤ right_at s k))
  where
    undo : (z : ℤ) → z ≡ sign s k *ℤ (sign s k *ℤ z)
    undo z = (let o : z ≡ pos 1 *ℤ z = omega (arith, ints) in o) ∙ ap (λ u. u *ℤ z) (sym (sign-twice s k)) ∙ mul_assoc_z (sign s k) (sign s k) z

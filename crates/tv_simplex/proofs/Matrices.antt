use Rattle.std.proofs.Common.{◌≡◌, ℕ, inl, inr, ◌+◌, ◌<◌, Bool, true, false, cond, arith, refl, sym, ap, ◌∙◌, subst, ℤ, pos, neg_ℤ, ◌*ℤ◌, ◌≤ℤ◌}
use Rattle.std.proofs.lemmas.Int.{ints}
use Rattle.std.proofs.lemmas.Bool.Decides.{nat_tests}
use Rattle.std.specs.Prelude.{nat_lt, int_lt}
use Rattle.tv_simplex.proofs.Sums.{delta-other, delta-same}
use Rattle.tv_simplex.specs.Sums.{delta}
use Rattle.tv_simplex.specs.Chains.{IsSystem}
use Rattle.tv_simplex.specs.Systems.{Equations, right_at, entry_at, sign, matrix}
use Rattle.std.proofs.lemmas.Bool.{cases_eq}

matrix-artificial : (s : Equations) (k i : ℕ) → k < s.rows → i < s.rows → matrix s k (s.columns + i) ≡ delta k i
matrix-artificial s k i k_in i_in = inside (nat_lt (s.columns + i) s.columns) (nat_lt (s.columns + i) (s.columns + s.rows)) (grind (arith, nat_tests)) (grind (arith, nat_tests)) ∙ shifted
  where
    inside : (p q : Bool) → p ≡ false → q ≡ true → cond p (sign s k *ℤ entry_at s k (s.columns + i)) (cond q (delta (s.columns + k) (s.columns + i)) (sign s k *ℤ right_at s k)) ≡ delta (s.columns + k) (s.columns + i)
    inside true q e f = cc
    inside false true e f = refl
    inside false false e f = cc

    shifted : delta (s.columns + k) (s.columns + i) ≡ delta k i
    shifted = elim (cases_eq k i) [
      | inl e ↦ ap (λ z. delta (s.columns + z) (s.columns + i)) e ∙ delta-same (s.columns + i) ∙ sym (ap (λ z. delta z i) e ∙ delta-same i)
      | inr o ↦ delta-other (s.columns + k) (s.columns + i) (λ e. o (let f : k ≡ i = omega arith in f)) ∙ sym (delta-other k i o)
    ]

pub matrix-right_is : (s : Equations) (k : ℕ) → matrix s k (s.columns + s.rows) ≡ sign s k *ℤ right_at s k
matrix-right_is s k = outside (nat_lt (s.columns + s.rows) s.columns) (nat_lt (s.columns + s.rows) (s.columns + s.rows)) (grind (arith, nat_tests)) (grind (arith, nat_tests))
  where
    outside : (p q : Bool) → p ≡ false → q ≡ false → cond p (sign s k *ℤ entry_at s k (s.columns + s.rows)) (cond q (delta (s.columns + k) (s.columns + s.rows)) (sign s k *ℤ right_at s k)) ≡ sign s k *ℤ right_at s k
    outside true q e f = cc
    outside false true e f = cc
    outside false false e f = refl

matrix-right : (s : Equations) (k : ℕ) → pos 0 ≤ℤ matrix s k (s.columns + s.rows)
matrix-right s k = subst (λ z. pos 0 ≤ℤ z) (sym (matrix-right_is s k)) (signed (right_at s k))
  where
    signed : (z : ℤ) → pos 0 ≤ℤ (cond (int_lt z (pos 0)) (neg_ℤ (pos 1)) (pos 1) *ℤ z)
    signed z = grind (arith, ints)

pub matrix_is_system : (s : Equations) → IsSystem (matrix s) s.rows s.columns
matrix_is_system s = record { artificial = matrix-artificial s; right = λ k l. matrix-right s k }

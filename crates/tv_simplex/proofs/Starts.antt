use Rattle.std.proofs.Common.{◌≡◌, ℕ, ◌+◌, ◌<◌, ◌≤◌, List, [], arith, refl, ap, ◌∙◌, ℤ, pos, ◌-ℤ◌, ◌*ℤ◌}
use Rattle.std.proofs.lemmas.Int.{ints}
use Rattle.tv_simplex.proofs.Sums.{total-same}
use Rattle.tv_simplex.proofs.RatioLemmas.{ratio_same}
use Rattle.tv_simplex.proofs.Steps.{start_tableau}
use Rattle.tv_simplex.proofs.Answered.{cost-one}
use Rattle.tv_simplex.specs.Sums.{total}
use Rattle.tv_simplex.specs.Chains.{column, cost, IsArtificial, IsSystem}
use Rattle.tv_simplex.specs.Ratios.{Ratio, IsRatio, Shows}

-- the system itself shows the artificial basis
pub shows_start : (a : ℕ → ℕ → ℤ) (m n : ℕ) → IsSystem a m n → (b : List ℕ) → IsArtificial m n b → (read : ℕ → ℕ → Ratio) → ((i j : ℕ) → i < m → j ≤ n + m → IsRatio (read i j) (a i j) (pos 1)) → ((j : ℕ) → j ≤ n + m → IsRatio (read m j) (cost m n j -ℤ total m (λ i. a i j)) (pos 1)) → Shows a m n b [] read
unfolding start_tableau
shows_start a m n s b h read rows last = record {
  chain = h;
  table = start_tableau a m n s (column b) h.columns;
  rows = rows;
  objective_row = λ j l. ratio_same (read m j) _ _ _ _ (last j l) (sums j) refl;
}
  where
    sums : (j : ℕ) → cost m n j -ℤ total m (λ i. a i j) ≡ pos 1 *ℤ cost m n j -ℤ total m (λ i. a i j *ℤ cost m n (column b i))
    sums j =
        let e = total-same m (λ i. a i j *ℤ cost m n (column b i)) (λ i. a i j) (λ i l. ap (λ z. a i j *ℤ z) (ap (cost m n) (h.columns i l) ∙ cost-one m n i l) ∙ one (a i j)) in
        omega (arith, ints, e)
      where
        one : (z : ℤ) → z *ℤ pos 1 ≡ z
        one z = omega (arith, ints)

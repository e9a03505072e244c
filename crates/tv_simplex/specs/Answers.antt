use Rattle.std.specs.Prelude.{◌≡◌, ℕ, ◌+◌, ◌<◌, ℤ, pos, ◌-ℤ◌, ◌*ℤ◌, ◌<ℤ◌, ◌≤ℤ◌}
use Rattle.tv_simplex.specs.Sums.{total, delta}
use Rattle.tv_simplex.specs.Tableaus.{Tableau}
use Rattle.tv_simplex.specs.Chains.{objective}

-- values of the n columns of the system, times a scale
pub record IsSolution (a : ℕ → ℕ → ℤ) (m n : ℕ) (values : ℕ → ℤ) (scale : ℤ) : Type 0 where
  pub not_under : (j : ℕ) → j < n → pos 0 ≤ℤ values j
  pub positive : pos 0 <ℤ scale
  pub met : (k : ℕ) → k < m → total n (λ j. a k j *ℤ values j) ≡ scale *ℤ a k (n + m)

-- a factor for each row: no column of the sum of the rows is negative, and its right side is
pub record IsBarrier (a : ℕ → ℕ → ℤ) (m n : ℕ) (y : ℕ → ℤ) : Type 0 where
  pub not_under : (j : ℕ) → j < n → pos 0 ≤ℤ total m (λ k. y k *ℤ a k j)
  pub below : total m (λ k. y k *ℤ a k (n + m)) <ℤ pos 0

-- the solution of a basis that solves, times the scale of its tableau: a column of the basis has the right
-- side of its row as its value, and each other column 0
abbrev pub values_of : (a : ℕ → ℕ → ℤ) (m n : ℕ) (b : ℕ → ℕ) → Tableau a m n b → ℕ → ℤ
values_of a m n b x j = total m (λ i. delta (b i) j *ℤ x.entry i (n + m))

-- the barrier of a basis without a negative objective entry, times the scale of its tableau: the objective
-- row in the artificial columns, less 1
abbrev pub barrier_of : (a : ℕ → ℕ → ℤ) (m n : ℕ) (b : ℕ → ℕ) → Tableau a m n b → ℕ → ℤ
barrier_of a m n b x k = objective a m n b x (n + k) -ℤ x.scale

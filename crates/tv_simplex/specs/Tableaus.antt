use Rattle.std.specs.Prelude.{◌≡◌, ℕ, ◌+◌, ◌<◌, ℤ, pos, ◌-ℤ◌, ◌*ℤ◌, ◌<ℤ◌}
use Rattle.tv_simplex.specs.Sums.{total, delta}

-- what is left of the row e, times the scale, when the rows of the table t make it 0 in the columns of the basis b
abbrev pub reduced : ℕ → (ℕ → ℤ) → (ℕ → ℕ) → ℤ → (ℕ → ℕ → ℤ) → ℕ → ℤ
reduced m e b scale t j = scale *ℤ e j -ℤ total m (λ i. t i j *ℤ e (b i))

-- The tableau of the basis b, a column for each of the m rows of the system a, over a scale: the entry in row i
-- and column j is `entry i j` divided by `scale`. Columns n to n + m - 1 are the artificial ones, and column
-- n + m is the right side.
pub record Tableau (a : ℕ → ℕ → ℤ) (m n : ℕ) (b : ℕ → ℕ) : Type 0 where
  pub scale : ℤ
  pub entry : ℕ → ℕ → ℤ
  pub positive : pos 0 <ℤ scale
  -- each row is a combination of the rows of the system, and its artificial columns say which
  pub combined : (i j : ℕ) → i < m → entry i j ≡ total m (λ k. entry i (n + k) *ℤ a k j)
  -- the columns of the basis are unit columns
  pub unit : (i l : ℕ) → i < m → l < m → entry i (b l) ≡ scale *ℤ delta i l
  -- each column of the system is the sum of the columns of the basis, each times the entry in its row
  pub spanned : (k j : ℕ) → k < m → reduced m (a k) b scale entry j ≡ pos 0

-- b' is b with c in the place r
pub record Exchange (m : ℕ) (b b' : ℕ → ℕ) (r c : ℕ) : Type 0 where
  pub at_place : b' r ≡ c
  pub elsewhere : (i : ℕ) → i < m → (i ≡ r → ⊥) → b' i ≡ b i

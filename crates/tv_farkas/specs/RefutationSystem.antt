use Rattle.std.specs.Prelude.{◌≡◌, ℕ, zero, suc, ◌+◌, ◌*◌, ◌<◌, List, [], ◌∷◌, ◌++◌, length, map, ℤ, pos, neg_ℤ}
use Rattle.tv_linear.specs.Linear.{Linear, entry}
use Rattle.tv_linear.specs.Arithmetic.{zeros}
use Rattle.tv_simplex.specs.Systems.{Equations}
use Rattle.tv_simplex.specs.Outcomes.{GivesBarrier}

-- the numbers of the rows in the first n columns, column by column
abbrev pub numbers_below : ℕ → List Linear → List ℤ
numbers_below zero rows = []
numbers_below (suc n) rows = numbers_below n rows ++ map (λ r. entry r n) rows

-- The refutation system of rows over n columns: a multiplier of at least 0 for each row, such that the sum of
-- the rows, each times its own, is 0 in each column and has the constant 1. The constant stands in column n.
abbrev pub refutation_system : ℕ → List Linear → Equations
refutation_system n rows = record {
  rows = n + 1;
  columns = length rows;
  entries = numbers_below (n + 1) rows;
  right = zeros n ++ pos 1 ∷ [];
}

-- the refutation system has more than 4,000,000 entries
abbrev pub IsLarge : ℕ → List Linear → Type 0
IsLarge n rows = 4000000 < (n + 1) * length rows

-- a value for each of the n columns: over the scale they are the point that the barrier of the last basis of the
-- chain of the rows' refutation system gives. Each value, and the scale last, is the opposite of a multiplier.
pub record IsPointOf (n : ℕ) (rows : List Linear) (values : List ℤ) (scale : ℤ) : Type 0 where
  pub as_many : length values ≡ n
  pub barrier : GivesBarrier (refutation_system n rows) (map neg_ℤ (values ++ scale ∷ []))

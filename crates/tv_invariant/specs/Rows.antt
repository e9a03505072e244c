-- Rows that others imply.
use Rattle.std.specs.Prelude.{◌≡◌, ℤ, ◌≤ℤ◌, List, All}
use Rattle.std.specs.List.{Contains}
use Rattle.tv_linear.specs.Linear.{Linear, IsMet}

-- the first row has the coefficients of the second, and no lesser constant
pub record Implies (strong weak : Linear) : Type 0 where
  pub same : strong.coefficients ≡ weak.coefficients
  pub more : weak.constant ≤ℤ strong.constant

-- the new rows are some of the old ones, and what meets them meets all
pub record IsStronger (old new : List Linear) : Type 0 where
  pub from : (r : Linear) → Contains new r → Contains old r
  pub met : (xs : List ℤ) → All (IsMet xs) new → All (IsMet xs) old

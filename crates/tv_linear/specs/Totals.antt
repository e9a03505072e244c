use Rattle.std.specs.Prelude.{ℕ, ◌*◌, ◌^◌, ◌≤◌, ◌<◌, ◌-◌, unsigned_abs, All, length}
use Rattle.tv_linear.specs.Linear.{Linear}

-- a sum of `parts` rows
pub record Sum : Type 0 where
  pub row : Linear
  pub parts : ℕ

-- each number is as small as that of a sum of `parts` narrow rows, and the columns are counted by 32 bits
pub record IsSmall (parts : ℕ) (r : Linear) : Type 0 where
  pub coefficients : All (λ z. unsigned_abs z ≤ parts * 2 ^ 62) r.coefficients
  pub constant : unsigned_abs r.constant ≤ parts * 2 ^ 62
  pub bounded : length r.coefficients < 2 ^ 32 - 1

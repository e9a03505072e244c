use Rattle.std.specs.Prelude.{◌≡◌, ℕ, ◌+◌, ◌*◌, ◌^◌, ◌<◌, ◌≤◌, List, length, get_or, nat_lt, cond, ℤ, pos, neg_ℤ, ◌*ℤ◌, int_lt}
use Rattle.tv_simplex.specs.Sums.{delta}

-- linear equations: the entries stand row by row, and each row has a right side
pub record Equations : Type 0 where
  pub rows : ℕ
  pub columns : ℕ
  pub entries : List ℤ
  pub right : List ℤ

abbrev pub entry_at : Equations → ℕ → ℕ → ℤ
entry_at s k j = get_or s.entries (k * s.columns + j) (pos 0)

abbrev pub right_at : Equations → ℕ → ℤ
right_at s k = get_or s.right k (pos 0)

-- the lists are as long as the numbers of rows and columns say, and there are at most 4,000,000 entries
pub record IsWhole (s : Equations) : Type 0 where
  pub entries : length s.entries ≡ s.rows * s.columns
  pub right : length s.right ≡ s.rows
  pub few_rows : s.rows < 2 ^ 32
  pub few_columns : s.columns < 2 ^ 32
  pub size : s.rows * s.columns ≤ 4000000

-- -1 for a negative number, else 1
abbrev pub sign_of : ℤ → ℤ
sign_of z = cond (int_lt z (pos 0)) (neg_ℤ (pos 1)) (pos 1)

-- the sign of the right side of a row
abbrev pub sign : Equations → ℕ → ℤ
sign s k = sign_of (right_at s k)

-- The system that is solved: the rows with a negative right side are multiplied by -1. Behind the columns of
-- the system stand an artificial column for each row, which is the unit column of that row, and the right side.
abbrev pub matrix : Equations → ℕ → ℕ → ℤ
matrix s k j =
    cond (nat_lt j s.columns) (sign s k *ℤ entry_at s k j)
    (cond (nat_lt j (s.columns + s.rows)) (delta (s.columns + k) j) (sign s k *ℤ right_at s k))

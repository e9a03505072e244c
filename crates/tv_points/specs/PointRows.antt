-- The rows that fix a point, and multipliers at them.
use Rattle.std.specs.Prelude.{ℕ, suc, List, [], ◌∷◌, ◌++◌, length, map, ℤ, pos, negsuc, neg_ℤ, Some}
use Rattle.tv_linear.specs.Linear.{Linear, linear}
use Rattle.tv_linear.specs.Arithmetic.{unit, opposite, constant_row}
use Rattle.tv_linear.specs.Known.{Known, known_number}

-- the row `x_v - k` over n columns
abbrev pub at_most_row : ℕ → ℕ → ℤ → Linear
at_most_row n v k = linear (unit n v) (neg_ℤ k)

-- for each of the numbers, from variable v on, the rows `x_v - k` and `-x_v + k` over n columns
abbrev pub rows_from : ℕ → ℕ → List ℤ → List Linear
rows_from n v [] = []
rows_from n v (k ∷ ks) = at_most_row n v k ∷ opposite (at_most_row n v k) ∷ rows_from n (suc v) ks

-- the rows that the point alone meets
abbrev pub point_rows : List ℤ → List Linear
point_rows xs = rows_from (length xs) 0 xs

-- the constants of these rows
abbrev pub constants_of : List ℤ → List ℤ
constants_of [] = []
constants_of (k ∷ ks) = neg_ℤ k ∷ k ∷ constants_of ks

-- a number where it is above 0, and else 0
abbrev pub above_zero : ℤ → ℤ
above_zero (pos n) = pos n
above_zero (negsuc n) = pos 0

-- the magnitude of a number where it is below 0, and else 0
abbrev pub below_zero : ℤ → ℤ
below_zero (pos n) = pos 0
below_zero (negsuc n) = pos (suc n)

-- the multipliers at the two rows of each variable, from variable v on: the magnitude of its coefficient at the row whose sign is not that
-- of the denial's coefficient, and 0 at the other
abbrev pub multipliers_from : (ℕ → ℤ) → ℕ → List ℤ → List ℤ
multipliers_from f v [] = []
multipliers_from f v (k ∷ ks) = above_zero (f v) ∷ below_zero (f v) ∷ multipliers_from f (suc v) ks

-- the coefficient of a row at a variable
abbrev pub coefficient_of : Known → ℕ → ℤ
coefficient_of row v = known_number row (Some v)

-- the multipliers at the rows of the point, and then 1 at the denial of the row
abbrev pub point_multipliers : Known → List ℤ → List ℤ
point_multipliers row xs = multipliers_from (coefficient_of row) 0 xs ++ pos 1 ∷ []

-- the rows of numbers
abbrev pub number_rows : ℕ → List ℤ → List Linear
number_rows n ds = map (λ d. constant_row n d) ds

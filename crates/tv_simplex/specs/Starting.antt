use Rattle.std.specs.Prelude.{◌≡◌, ℕ, ◌+◌, ◌*◌, ◌^◌, ◌<◌, ◌≤◌, List, length, get_or, Vec, ℤ, pos, ◌-ℤ◌, unsigned_abs, cond, nat_lt}
use Rattle.tv_fraction.specs.declared.Fraction.{Fraction}
use Rattle.tv_simplex.specs.Sums.{total}
use Rattle.tv_simplex.specs.Systems.{Equations, matrix}
use Rattle.tv_simplex.specs.Chains.{cost}
use Rattle.tv_simplex.specs.Ratios.{Ratio, IsRatio}
use Rattle.tv_simplex.specs.Outcomes.{IsNarrow, IsGivenColumn, given}
use Rattle.tv_simplex.specs.declared.rows.Entry.{Entry}
use Rattle.tv_simplex.specs.declared.stop.Stop.{Stop}
use Rattle.tv_simplex.specs.declared.stop.Stop.TheVariants.{Wide, Scale, Memory}
use Rattle.tv_simplex.specs.Rows.{ratio, row_of, IsRow, IsNarrowRatio}

-- every number of the row is narrow
abbrev pub IsNarrowRowOf : Equations → ℕ → Type 0
IsNarrowRowOf s k = (j : ℕ) → IsGivenColumn s j → IsNarrow (given s k j)

-- the first column of the row whose number is not narrow
pub record IsFirstWideColumn (s : Equations) (k column : ℕ) : Type 0 where
  pub column_given : IsGivenColumn s column
  pub wide : IsNarrow (given s k column) → ⊥
  pub before : (j : ℕ) → IsGivenColumn s j → j < column → IsNarrow (given s k j)

-- the last column of the tableau, the right side
abbrev pub last : Equations → ℕ
last s = s.columns + s.rows

-- the objective row of the artificial basis
abbrev pub first_objective : Equations → ℕ → ℤ
first_objective s j = cost s.rows s.columns j -ℤ total s.rows (λ k. matrix s k j)

-- the column of a sum: those of the system come first, and then the right side
abbrev pub first_slot : Equations → ℕ → ℕ
first_slot s k = cond (nat_lt k s.columns) k (last s)

-- the fraction is this integer of the column
abbrev pub IsNumber : (ℕ → ℤ) → ℕ → Ratio → Type 0
IsNumber numbers j f = IsRatio f (numbers j) (pos 1)

-- from a column on the numbers are 0 before another
abbrev pub AreZero : (ℕ → ℤ) → ℕ → ℕ → Type 0
AreZero numbers first end = (j : ℕ) → first ≤ j → j < end → numbers j ≡ pos 0

-- whatever numbers the row holds, it goes on with this one in the column
abbrev pub IsNumberPut : ℕ → ℤ → List Entry → List Entry → Type 0
IsNumberPut column number old new =
    (numbers : ℕ → ℤ) (from : ℕ) → from ≤ column → numbers column ≡ number → AreZero numbers from column →
    IsRow (IsNumber numbers) from old → IsRow (IsNumber numbers) (column + 1) new

-- the row holds the numbers of row k of the system, its artificial column and its right side
abbrev pub IsFirstRow : Equations → ℕ → List Entry → Type 0
IsFirstRow s k row = IsRow (IsNumber (matrix s k)) (last s + 1) row

-- the row holds the objective row of the artificial basis
abbrev pub IsFirstObjective : Equations → List Entry → Type 0
IsFirstObjective s row = IsRow (IsNumber (first_objective s)) (last s + 1) row

-- the rows hold the system and the objective of the artificial basis
pub record IsFirstTable {A : Type 0} (s : Equations) (rows : List (Vec Entry A)) : Type 0 where
  pub height : length rows ≡ s.rows + 1
  pub row : (i : ℕ) → i < s.rows → IsFirstRow s i (row_of rows i)
  pub objective : IsFirstObjective s (row_of rows s.rows)

-- z is the sum of the first n rows in the column of sum k
pub record IsSum (s : Equations) (n k : ℕ) (z : ℤ) : Type 0 where
  pub value : z ≡ total n (λ i. matrix s i (first_slot s k))
  pub bound : unsigned_abs z ≤ 2 ^ 40 * n

-- the sums of the first n rows in the columns of the system and of the right side
pub record AreSums (s : Equations) (n : ℕ) (sums : List ℤ) : Type 0 where
  pub size : length sums ≡ s.columns + 1
  pub each : (k : ℕ) → k < s.columns + 1 → IsSum s n k (get_or sums k (pos 0))

-- the number of the objective row in the column is not narrow
pub record IsWideObjective (s : Equations) (row column : ℕ) : Type 0 where
  pub row_is : row ≡ s.rows
  pub column_within : column ≤ last s
  pub fraction : Fraction
  pub same : IsRatio (ratio fraction) (first_objective s column) (pos 1)
  pub wide : IsNarrowRatio (ratio fraction) → ⊥

abbrev pub IsStartStop : Equations → Stop → Type 0
IsStartStop s (Wide row column) = IsWideObjective s row column
IsStartStop s Scale = ⊥
IsStartStop s Memory = Unit {0}

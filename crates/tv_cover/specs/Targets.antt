use Rattle.std.specs.Prelude.{◌≡◌, ℕ, zero, suc, ◌≤◌, List, length, map, All, ℤ, slice_get, Option, None}
use Rattle.std.specs.List.{Contains}
use Rattle.std.specs.Option.{option_map}
use Rattle.tv_linear.specs.Linear.{Linear, columns, IsMet, IsScaledPoint}
use Rattle.tv_linear.specs.Fits.{IsNarrowAt}
use Rattle.tv_linear.specs.Known.{Known, as_given}
use Rattle.tv_linear.specs.declared.region.Poly.{Poly}

-- the rows of each target
abbrev pub lists_of : List Poly → List (List Linear)
lists_of targets = map (λ t. t.rows.items) targets

-- the rows have n columns
abbrev pub AreEven : ℕ → List Linear → Type 0
AreEven n rows = All (λ r. columns r ≡ n) rows

-- the point lies in some target: it meets each row of it
pub record IsInTarget (lists : List (List Linear)) (xs : List ℤ) : Type 0 where
  pub rows : List Linear
  pub target : Contains lists rows
  pub met : All (IsMet xs) rows

-- the point does not meet some row of the list
abbrev pub IsOutside : List ℤ → List Linear → Type 0
IsOutside xs rows = (r : Linear) × Contains rows r × (IsMet xs r → ⊥)

-- the rows that are owed on entering target k; no fall is owed
abbrev pub owed_lists : List (List Linear) → ℕ → ℕ → Option (List Known)
owed_lists lists k zero = option_map as_given (slice_get lists k)
owed_lists lists k (suc j) = None

-- some point of n coordinates over a scale meets the rows
pub record HasPoint (n : ℕ) (rows : List Linear) : Type 0 where
  pub values : List ℤ
  pub scale : ℤ
  pub size : length values ≡ n
  pub meets : IsScaledPoint rows values scale

-- it is a row of a target
pub record IsTargetRow (lists : List (List Linear)) (row : Linear) : Type 0 where
  pub rows : List Linear
  pub target : Contains lists rows
  pub among : Contains rows row

-- each number of the row is below 2^62 in magnitude
abbrev pub IsNarrowRow : Linear → Type 0
IsNarrowRow r = (column : ℕ) → column ≤ columns r → IsNarrowAt r column

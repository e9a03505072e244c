-- Rows that are made for a choice.
use Rattle.std.specs.Prelude.{◌≡◌, ℕ, suc, ◌+◌, ◌≤◌, List, [], ◌∷◌, ◌++◌, map, take, All, ℤ, pos, ◌-ℤ◌, slice_get, Some}
use Rattle.tv_linear.specs.Linear.{Linear, columns}
use Rattle.tv_linear.specs.Arithmetic.{composed}
use Rattle.tv_linear.specs.Fits.{FitsComposed, IsFirstWide}
use Rattle.tv_farkas.specs.Paths.{at_most_row, at_least_row}
use Rattle.tv_cases.specs.Before.{before, rows_after, FitsTerms}
use Rattle.tv_cases.specs.EdgeCases.{columns_from}
use Rattle.tv_cases.specs.LinearCases.{LinearCase}

-- two rows over w columns for each number, which fix a column at it, from a column on
abbrev pub fixes : ℕ → ℕ → List ℤ → List Linear
fixes w column [] = []
fixes w column (x ∷ xs) = at_most_row w column x ∷ at_least_row w column (x -ℤ pos 1) ∷ fixes w (suc column) xs

-- the guards of a case, and then rows at its end as they are read before it
abbrev pub case_rows : LinearCase → List Linear → List Linear
case_rows c owed = c.guards ++ map (λ r. before r c) owed

-- what is put in for the columns of a case: each variable's own column, and the terms for the draws
abbrev pub put_terms : ℕ → List Linear → List Linear
put_terms n draws = columns_from n 0 n ++ draws

-- the rows of a case with terms put in for its draws
abbrev pub put_rows : ℕ → List Linear → List Linear → List Linear
put_rows n draws rows = map (λ r. composed r (put_terms n draws)) rows

-- ---- rows that are too wide

-- the row at the place is the first of the list with a column that does not fit, and the column is the first such one of it
pub record IsFirstWideRow (Fits : Linear → ℕ → Type 0) (last : Linear → ℕ) (rows : List Linear) (column : ℕ) : Type 0 where
  pub place : ℕ
  pub row : Linear
  pub found : slice_get rows place ≡ Some row
  pub earlier : All (λ r. (k : ℕ) → k ≤ last r → Fits r k) (take place rows)
  pub wide : IsFirstWide (Fits row) (last row) column

-- each of these rows fits when it is read before the case
abbrev pub AreRead : LinearCase → List Linear → Type 0
AreRead c rows = All (λ r. (column : ℕ) → column ≤ columns (before r c) → FitsTerms (columns r + c.draws) r (rows_after r c) column) rows

-- each of these rows fits with these terms put in
abbrev pub ArePut : List Linear → List Linear → Type 0
ArePut terms rows = All (λ r. (column : ℕ) → column ≤ columns (composed r terms) → FitsComposed r terms column) rows

-- of these rows the first that is too wide when it is read before the case
abbrev pub IsWideBefore : LinearCase → List Linear → ℕ → Type 0
IsWideBefore c rows column = IsFirstWideRow (λ r. FitsTerms (columns r + c.draws) r (rows_after r c)) (λ r. columns (before r c)) rows column

-- of these rows the first that is too wide with these terms put in
abbrev pub IsWidePut : List Linear → List Linear → ℕ → Type 0
IsWidePut terms rows column = IsFirstWideRow (λ r. FitsComposed r terms) (λ r. columns (composed r terms)) rows column

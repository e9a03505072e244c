-- Rows made of others: before a case, and with numbers put in for the draws.
use Rattle.std.specs.Prelude.{◌≡◌, ℕ, ◌+◌, ◌≤◌, List, ◌++◌, map, Contains, All, ℤ, Err}
use Rattle.tv_linear.specs.Linear.{Linear, columns}
use Rattle.tv_linear.specs.Arithmetic.{composed}
use Rattle.tv_linear.specs.Fits.{FitsComposed, GivesComposed}
use Rattle.tv_linear.specs.declared.fault.RowFault.{RowFault}
use Rattle.tv_linear.specs.declared.fault.RowFault.TheVariants as row
use Rattle.tv_cases.specs.Before.{before, GivesBefore}
use Rattle.tv_cases.specs.EdgeCases.{columns_from}
use Rattle.tv_cases.specs.LinearCases.{LinearCase}
use Rattle.tv_points.specs.PointRows.{number_rows}
use Rattle.tv_farkas.specs.declared.fault.CoverFault.{CoverFault}
use Rattle.tv_farkas.specs.declared.fault.CoverFault.TheVariants.{Splits, Solve, Wide, Memory}

-- ---- with terms put in

-- each column of the row with a term for each of its own fits
abbrev pub FitsPut : List Linear → Linear → Type 0
FitsPut terms r = (column : ℕ) → column ≤ columns (composed r terms) → FitsComposed r terms column

abbrev pub rows_put : List Linear → List Linear → List Linear
rows_put terms rows = map (λ r. composed r terms) rows

-- The rows with the terms put in. Each row fits.
pub record ArePut (terms rows made : List Linear) : Type 0 where
  pub exact : made ≡ rows_put terms rows
  pub fits : All (FitsPut terms) rows

-- n variables, each its own term, and then the numbers of the draws
abbrev pub drawn_terms : ℕ → List ℤ → List Linear
drawn_terms n ds = columns_from n 0 n ++ number_rows n ds

-- ---- refusals

-- the fault of a row, where one of the rows is refused so
abbrev pub IsUnmade : (Linear → RowFault → Type 0) → List Linear → CoverFault → Type 0
IsUnmade refuses rows (Splits path) = ⊥
IsUnmade refuses rows (Solve kept fault) = ⊥
IsUnmade refuses rows (Wide column) = (r : Linear) × Contains rows r × refuses r (row.Wide column)
IsUnmade refuses rows Memory = Unit {0}

-- a row is refused before the case, or with the terms
abbrev pub RefusesBefore : LinearCase → Linear → RowFault → Type 0
RefusesBefore c r fault = GivesBefore r c (Err fault)

abbrev pub RefusesPut : List Linear → Linear → RowFault → Type 0
RefusesPut terms r fault = GivesComposed r terms (Err fault)

-- the fault of a row as that of a search
abbrev pub IsHandedOn : RowFault → CoverFault → Type 0
IsHandedOn (row.Wide column) (Splits path) = ⊥
IsHandedOn (row.Wide column) (Solve kept fault) = ⊥
IsHandedOn (row.Wide column) (Wide other) = other ≡ column
IsHandedOn (row.Wide column) Memory = ⊥
IsHandedOn row.Memory (Splits path) = ⊥
IsHandedOn row.Memory (Solve kept fault) = ⊥
IsHandedOn row.Memory (Wide other) = ⊥
IsHandedOn row.Memory Memory = Unit {0}

-- How rows are shown at a point.
use Rattle.std.specs.Prelude.{◌≡◌, ℕ, ◌<◌, ◌≤◌, List, [], ◌∷◌, ◌++◌, length, map, All, ℤ, Option, None, Some, Result, MatchResult}
use Rattle.std.specs.Global.{Vec}
use Rattle.tv_linear.specs.Linear.{IsWithin}
use Rattle.tv_linear.specs.Fits.{IsFirstWide}
use Rattle.tv_linear.specs.Known.{Known, denied, KnownHeld, IsKnownMet, as_given}
use Rattle.tv_linear.specs.Refutation.{ColumnHeld, Refutes}
use Rattle.tv_points.specs.PointRows.{point_rows, point_multipliers, coefficient_of}
use Rattle.tv_points.specs.declared.fault.PointFault.{PointFault}
use Rattle.tv_points.specs.declared.fault.PointFault.TheVariants.{Wide, Memory}

-- the rows of the point and the denial of a row
abbrev pub beside : Known → List ℤ → List Known
beside row xs = as_given (point_rows xs) ++ denied row ∷ []

-- in the column each number, each product and each partial sum of the line is below 2^127 in magnitude
abbrev pub LineHeld : Known → List ℤ → Option ℕ → Type 0
LineHeld row xs column = ColumnHeld (point_multipliers row xs) (beside row xs) column

-- the column of the line is held; the constant's is the last
pub record FitsLine (row : Known) (xs : List ℤ) (column : ℕ) : Type 0 where
  pub inner : column < length xs → LineHeld row xs (Some column)
  pub last : length xs ≤ column → LineHeld row xs None

-- the number of the row in the column can be told, and is below 2^62 in magnitude
abbrev pub IsNarrowIn : Known → ℕ → Type 0
IsNarrowIn row column = KnownHeld row (Some column) × IsWithin 62 (coefficient_of row column)

-- so it is in each column from one up to another
abbrev pub AreNarrowBetween : Known → ℕ → ℕ → Type 0
AreNarrowBetween row first end = (column : ℕ) → first ≤ column → column < end → IsNarrowIn row column

-- the point meets the row, whose coefficients are below 2^62 in magnitude
pub record IsShowable (xs : List ℤ) (row : Known) : Type 0 where
  pub flat : (column : ℕ) → column < length xs → IsNarrowIn row column
  pub met : IsKnownMet xs row

-- the multipliers are those that are meant, and refute the rows of the point together with the denial of the row
pub record ShowsAt (xs : List ℤ) (row : Known) (ms : List ℤ) : Type 0 where
  pub meant : ms ≡ point_multipliers row xs
  pub refutes : Refutes (length xs) (beside row xs) ms
  pub narrow : All (IsWithin 62) ms

-- a row to be shown, and the point where it is
pub record Line : Type 0 where
  pub point : List ℤ
  pub row : Known

abbrev pub line : List ℤ → Known → Line
line xs row = record { point = xs; row = row }

-- the lines of rows at one point
abbrev pub lines_at : List ℤ → List Known → List Line
lines_at xs rows = map (λ r. line xs r) rows

abbrev pub IsShown : Line → Type 0
IsShown l = ShowsAt l.point l.row (point_multipliers l.row l.point)

-- the lines before some line are shown, and this is the first of its columns that does not fit
pub record IsFirstWideLine (lines : List Line) (column : ℕ) : Type 0 where
  pub before : List Line
  pub wide : Line
  pub after : List Line
  pub parts : lines ≡ before ++ wide ∷ after
  pub shown : All IsShown before
  pub first : IsFirstWide (FitsLine wide.row wide.point) (length wide.point) column

-- what a refusal shows: the first column of the first line that does not fit
abbrev pub IsLineFault : List Line → PointFault → Type 0
IsLineFault lines (Wide column) = IsFirstWideLine lines column
IsLineFault lines Memory = Unit {0}

-- the multipliers of rows at one point
abbrev pub multiplier_lists : List ℤ → List Known → List (List ℤ)
multiplier_lists xs rows = map (λ r. point_multipliers r xs) rows

-- each of the rows is shown at the point, and the multipliers were pushed
pub record ArePushed (xs : List ℤ) (rows : List Known) (old new : List (List ℤ)) : Type 0 where
  pub shown : All IsShown (lines_at xs rows)
  pub pushed : new ≡ old ++ multiplier_lists xs rows

-- what comes of pushing them: that, or the first line that does not fit
abbrev pub GivesLines : {A : Type 0} → List ℤ → List Known → List (Vec ℤ) → List (Vec ℤ) → Result A PointFault → Type 0
GivesLines xs rows old new result =
    MatchResult result (λ _. ArePushed xs rows (map (λ l. l.items) old) (map (λ l. l.items) new)) (IsLineFault (lines_at xs rows))

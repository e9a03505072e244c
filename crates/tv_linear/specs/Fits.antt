use Rattle.std.specs.Prelude.{◌≡◌, ℕ, ◌<◌, ◌≤◌, ℤ, pos, ◌+ℤ◌, ◌*ℤ◌, List, [], ◌∷◌, map, Result, MatchResult}
use Rattle.tv_linear.specs.Linear.{Linear, columns, entry, IsWithin, value}
use Rattle.tv_linear.specs.Arithmetic.{composed}
use Rattle.tv_linear.specs.Tight.{tight}
use Rattle.tv_linear.specs.declared.fault.RowFault.{RowFault}
use Rattle.tv_linear.specs.declared.fault.RowFault.TheVariants.{Wide, Memory}

-- ---- sums on the way

-- below 2^127 in magnitude
abbrev pub IsHeld : ℤ → Type 0
IsHeld z = IsWithin 127 z

-- from a sum on, in the order of the lists, each product and each sum is below 2^127 in magnitude
abbrev pub SumsHeld : ℤ → List ℤ → List ℤ → Type 0
SumsHeld sum [] xs = Unit {0}
SumsHeld sum (c ∷ cs) [] = Unit {0}
SumsHeld sum (c ∷ cs) (x ∷ xs) = IsHeld (c *ℤ x) × IsHeld (sum +ℤ (c *ℤ x)) × SumsHeld (sum +ℤ (c *ℤ x)) cs xs

-- each product and each partial sum of a value, in the order of the columns and the constant last, is below
-- 2^127 in magnitude
abbrev pub ValueHeld : Linear → List ℤ → Type 0
ValueHeld r xs = SumsHeld (pos 0) r.coefficients xs × IsHeld (value r xs)

-- ---- columns that fit

-- the number at the column is below 2^62 in magnitude
abbrev pub IsNarrowAt : Linear → ℕ → Type 0
IsNarrowAt r column = IsWithin 62 (entry r column)

-- the column of the composed row fits: its number is below 2^62 in magnitude, and each product and each
-- partial sum that make it, in the order of the columns of r, are below 2^127 in magnitude. At the last
-- column the constant of r is added last, which gives the number itself.
pub record FitsComposed (r : Linear) (terms : List Linear) (column : ℕ) : Type 0 where
  pub on_the_way : SumsHeld (pos 0) r.coefficients (map (λ t. entry t column) terms)
  pub narrow : IsNarrowAt (composed r terms) column

-- of the columns up to the last this one is the first that does not fit
pub record IsFirstWide (Fits : ℕ → Type 0) (last column : ℕ) : Type 0 where
  pub inside : column ≤ last
  pub wide : ¬ Fits column
  pub earlier : (k : ℕ) → k < column → Fits k

-- the fault names the first column that does not fit, or it is want of memory
abbrev pub IsFaultWhere : (ℕ → Type 0) → ℕ → RowFault → Type 0
IsFaultWhere Fits last (Wide column) = IsFirstWide Fits last column
IsFaultWhere Fits last Memory = Unit {0}

-- the row is the one that is meant, and each column fits
pub record IsRowWhere (Fits : ℕ → Type 0) (last : ℕ) (meant row : Linear) : Type 0 where
  pub same : row ≡ meant
  pub fits : (column : ℕ) → column ≤ last → Fits column

-- the row that is meant, where each column up to the last fits, and else the fault
abbrev pub GivesWhere : (ℕ → Type 0) → ℕ → Linear → Result Linear RowFault → Type 0
GivesWhere Fits last meant result = MatchResult result (IsRowWhere Fits last meant) (IsFaultWhere Fits last)

-- the exact row, where its numbers are below 2^62 in magnitude, and else the first column where one is not
abbrev pub GivesRow : Linear → Result Linear RowFault → Type 0
GivesRow exact result = GivesWhere (IsNarrowAt exact) (columns exact) exact result

-- the same, and the row is tightened then
abbrev pub GivesTight : Linear → Result Linear RowFault → Type 0
GivesTight exact result = GivesWhere (IsNarrowAt exact) (columns exact) (tight exact) result

-- the row with a term put in for each column, and else the first column that does not fit
abbrev pub GivesComposed : Linear → List Linear → Result Linear RowFault → Type 0
GivesComposed r terms result = GivesWhere (FitsComposed r terms) (columns (composed r terms)) (composed r terms) result

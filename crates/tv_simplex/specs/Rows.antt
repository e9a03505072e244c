use Rattle.std.specs.Prelude.{◌≡◌, ◌⊎◌, ℕ, ◌+◌, ◌^◌, ◌<◌, ◌≤◌, List, [], ◌∷◌, ◌++◌, length, map, get_or, cond, nat_eq, Vec, pos, unsigned_abs}
use Rattle.tv_fraction.specs.declared.Fraction.{Fraction}
use Rattle.tv_simplex.specs.Ratios.{Ratio, IsQuotient, IsLessProduct}
use Rattle.tv_simplex.specs.declared.rows.Entry.{Entry}

abbrev pub ratio : Fraction → Ratio
ratio f = record { numerator = f.numerator; denominator = f.denominator }

abbrev pub none : Ratio
none = record { numerator = pos 0; denominator = pos 1 }

-- the number of an entry
abbrev pub ratio_of : Entry → Ratio
ratio_of e = record { numerator = e.number.numerator; denominator = e.number.denominator }

-- the fraction of a row in a column: 0 where the row has no entry
abbrev pub entry_in : List Entry → ℕ → Ratio
entry_in [] j = none
entry_in (e ∷ es) j = cond (nat_eq e.column j) (ratio_of e) (entry_in es j)

-- a row of a table, and the fraction in a column of it
abbrev pub row_of : {A : Type 0} → List (Vec Entry A) → ℕ → List Entry
row_of rows i = get_or (map (λ v. v.items) rows) i []

abbrev pub read : {A : Type 0} → List (Vec Entry A) → ℕ → ℕ → Ratio
read rows i j = entry_in (row_of rows i) j

-- both parts are below 2^40 in magnitude
abbrev pub IsNarrowRatio : Ratio → Type 0
IsNarrowRatio f = (unsigned_abs f.numerator < 2 ^ 40) × (unsigned_abs f.denominator < 2 ^ 40)

-- the column of the entry is one of these, and its number is not 0
pub record IsEntry (first end : ℕ) (e : Entry) : Type 0 where
  pub from : first ≤ e.column
  pub below : e.column < end
  pub nonzero : e.number.numerator ≡ pos 0 → ⊥

-- the columns of the entries increase, from the first to below the end, and the numbers are not 0
abbrev pub IsSparse : ℕ → ℕ → List Entry → Type 0
IsSparse first end [] = Unit {0}
IsSparse first end (e ∷ es) = IsEntry first end e × IsSparse (e.column + 1) end es

-- a sparse row of `width` columns, whose fraction in each of them keeps the rule
pub record IsRow (rule : ℕ → Ratio → Type 0) (width : ℕ) (row : List Entry) : Type 0 where
  pub sparse : IsSparse 0 width row
  pub each : (j : ℕ) → j < width → rule j (entry_in row j)

-- the entries begin with this column, or no earlier
abbrev pub BeginsWith : List Entry → ℕ → Type 0
BeginsWith [] column = ⊥
BeginsWith (e ∷ es) column = e.column ≡ column

abbrev pub BeginsFrom : List Entry → ℕ → Type 0
BeginsFrom [] column = Unit {0}
BeginsFrom (e ∷ es) column = column ≤ e.column

-- the least column of the entries of two rows
pub record IsNextColumn (left right : List Entry) (column : ℕ) : Type 0 where
  pub begins : BeginsWith left column ⊎ BeginsWith right column
  pub left_from : BeginsFrom left column
  pub right_from : BeginsFrom right column

-- the entries are those of the row from the column on
pub record IsRestOf (row : ℕ → Ratio) (column width : ℕ) (entries : List Entry) : Type 0 where
  pub sparse : IsSparse column width entries
  pub same : (j : ℕ) → column ≤ j → entry_in entries j ≡ row j

-- the row goes on with one more entry, of the fraction in the column
pub record IsAppended (column : ℕ) (f : Ratio) (old new : List Entry) : Type 0 where
  pub entry : Entry
  pub column_is : entry.column ≡ column
  pub number_is : ratio_of entry ≡ f
  pub appended : new ≡ old ++ entry ∷ []

-- the fraction stands in the column at the end of the row, where it is not 0
abbrev pub IsPut : ℕ → Ratio → List Entry → List Entry → Type 0
IsPut column f old new = ((f ≡ none) × (new ≡ old)) ⊎ ((f.numerator ≡ pos 0 → ⊥) × IsAppended column f old new)

-- the fraction of the old row, divided by the divisor
abbrev pub IsDivided : List Entry → Ratio → ℕ → Ratio → Type 0
IsDivided old divisor j f = IsQuotient f (entry_in old j) divisor

-- the fraction of the old row, less the factor times that of the pivot row
abbrev pub IsTaken : List Entry → Ratio → List Entry → ℕ → Ratio → Type 0
IsTaken old factor pivots j f = IsLessProduct f (entry_in old j) factor (entry_in pivots j)

-- in the column stands a fraction that is not narrow, by this rule
pub record IsWideBy (rule : ℕ → Ratio → Type 0) (width j : ℕ) : Type 0 where
  pub within : j < width
  pub fraction : Fraction
  pub is : rule j (ratio fraction)
  pub wide : IsNarrowRatio (ratio fraction) → ⊥

-- the row is made by the rule in the columns below this one, and the entries that are left are those of the old row from it on
pub record IsMade (rule : ℕ → Ratio → Type 0) (old : List Entry) (width column : ℕ) (entries new : List Entry) : Type 0 where
  pub within : column ≤ width
  pub left : IsRestOf (entry_in old) column width entries
  pub made : IsRow rule column new

-- from a column on the row has none before another
abbrev pub NoneBetween : List Entry → ℕ → ℕ → Type 0
NoneBetween row first end = (j : ℕ) → first ≤ j → j < end → entry_in row j ≡ none

-- of whatever rows the new one is made, it goes on with the entries below the column, where the pivot row has none
abbrev pub IsCopied : ℕ → List Entry → List Entry → List Entry → List Entry → Type 0
IsCopied column entries made left new =
    (old pivots : List Entry) (factor : Ratio) (width from : ℕ) → from ≤ column → column ≤ width → NoneBetween pivots from column →
    IsMade (IsTaken old factor pivots) old width from entries made → IsMade (IsTaken old factor pivots) old width column left new

-- the entry is the first of the pivot row from a column on
pub record IsNextPivot (row : List Entry) (width column : ℕ) (e : Entry) : Type 0 where
  pub from : column ≤ e.column
  pub below : e.column < width
  pub none_before : NoneBetween row column e.column
  pub is : entry_in row e.column ≡ ratio_of e

-- of whatever rows the new one is made, it goes on to the column of the next pivot
abbrev pub IsTakenOnce : Ratio → Entry → List Entry → List Entry → List Entry → List Entry → Type 0
IsTakenOnce factor pivot entries made left new =
    (old pivots : List Entry) (width from : ℕ) → IsNextPivot pivots width from pivot →
    IsMade (IsTaken old factor pivots) old width from entries made → IsMade (IsTaken old factor pivots) old width (pivot.column + 1) left new

-- or a fraction there is not narrow
abbrev pub IsWideOnce : Ratio → Entry → List Entry → List Entry → Type 0
IsWideOnce factor pivot entries made =
    (old pivots : List Entry) (width from : ℕ) → IsNextPivot pivots width from pivot →
    IsMade (IsTaken old factor pivots) old width from entries made → IsWideBy (IsTaken old factor pivots) width pivot.column

-- the rows are sparse
abbrev pub IsGrid : {A : Type 0} → ℕ → List (Vec Entry A) → Type 0
IsGrid width rows = (i : ℕ) → i < length rows → IsSparse 0 width (row_of rows i)

-- the entries are those of a column: the numbers of the first rows there that are not 0, each with its row in place of a column
abbrev pub IsColumn : ℕ → ℕ → (ℕ → ℕ → Ratio) → List Entry → Type 0
IsColumn height column read entries = IsRow (λ i f. f ≡ read i column) height entries

-- each row but row r is less its factor times the pivot row; row r stays
pub record AreCleared {A : Type 0} (width r : ℕ) (factor : ℕ → Ratio) (pivots : List Entry) (old new : List (Vec Entry A)) : Type 0 where
  pub size : length new ≡ length old
  pub kept : row_of new r ≡ row_of old r
  pub cleared : (i : ℕ) → i < length old → (i ≡ r → ⊥) → IsRow (IsTaken (row_of old i) (factor i) pivots) width (row_of new i)

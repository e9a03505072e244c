-- What is read of the parts of a certificate.
use Rattle.std.specs.Prelude.{◌≡◌, ℕ, ◌+◌, ℤ, List, [], ◌∷◌, ◌++◌, length, map, All, Result, Ok, Err}
use Rattle.std.specs.Global.{Vec}
use Rattle.tv_lines.specs.Lines.{PlainLine, formed}
use Rattle.tv_lines.specs.Numbers.{IsNarrow}
use Rattle.tv_linear.specs.Linear.{Linear, columns, IsNarrow as IsNarrowRow}
use Rattle.tv_linear.specs.Packed.{packed}
use Rattle.tv_linear.specs.declared.row.Row.{Row}
use Rattle.tv_cert_reader.specs.CertificateLines.{row_line, row_lines, by_lines}
use Rattle.tv_cert_reader.specs.LineGrammar.{many}
use Rattle.tv_cert_reader.specs.declared.number_line.NumberLine.{NumberLine}
use Rattle.tv_cert_reader.specs.declared.number_line.NumberLine.TheVariants.{By}
use Rattle.tv_cert_reader.specs.declared.cursor.Cursor.{Cursor}
use Rattle.tv_cert_reader.specs.declared.failure.Failure.{Failure}
use Rattle.tv_cert_reader.specs.NumberLines.{head_of, line_with}
use Rattle.tv_cert_reader.specs.Reading.{Reads, Takes, FailsBy}

-- The row has these numbers, over `width` columns. The last number is its constant.
pub record IsRowOf (width : ℕ) (zs : List ℤ) (row : Linear) : Type 0 where
  pub wide : columns row ≡ width
  pub numbers : zs ≡ row.coefficients ++ row.constant ∷ []

-- `count` things of one kind
pub record AreMany {Y : Type 0} (Has : Y → Type 0) (count : ℕ) (ys : List Y) : Type 0 where
  pub many : length ys ≡ count
  pub each : All Has ys

-- `count` narrow numbers
pub record AreNumbers (count : ℕ) (zs : List ℤ) : Type 0 where
  pub many : length zs ≡ count
  pub narrow : All IsNarrow zs

abbrev pub numbers_of : Vec ℤ → List ℤ
numbers_of v = v.items

abbrev pub numbers_line : NumberLine → List ℤ → List PlainLine
numbers_line kind zs = formed (head_of kind) zs ∷ []

-- a line of `count` numbers is read
abbrev pub ReadsNumbers : NumberLine → ℕ → Cursor → Cursor → Result (Vec ℤ) Failure → Type 0
ReadsNumbers kind count old new result = Reads numbers_of (AreNumbers count) (numbers_line kind) (line_with kind count) old new result

-- a row over `width` columns
abbrev pub IsWide : ℕ → Linear → Type 0
IsWide width r = columns r ≡ width

abbrev pub one_row : NumberLine → Linear → List PlainLine
one_row kind r = row_line (head_of kind) r ∷ []

-- a row is read
abbrev pub ReadsRow : NumberLine → ℕ → Cursor → Cursor → Result Row Failure → Type 0
ReadsRow kind width old new result = Reads (λ r. r) (IsWide width) (one_row kind) (line_with kind (width + 1)) old new result

abbrev pub rows_in : Vec Row → List Linear
rows_in v = v.items

-- `count` rows are read
abbrev pub ReadsRows : NumberLine → ℕ → ℕ → Cursor → Cursor → Result (Vec Row) Failure → Type 0
ReadsRows kind width count old new result = Reads rows_in (AreMany (IsWide width) count) (row_lines (head_of kind)) (many count (line_with kind (width + 1))) old new result

-- the numbers of a row over `width` columns are put after others
pub record IsAppended (width : ℕ) (zs ys : List ℤ) (row : Linear) : Type 0 where
  pub wide : columns row ≡ width
  pub narrow : IsNarrowRow row
  pub numbers : ys ≡ zs ++ (row.coefficients ++ row.constant ∷ [])

-- a row is read, and its numbers are put after others
abbrev pub AppendsRow : NumberLine → ℕ → List ℤ → List ℤ → Cursor → Cursor → Result (Unit {0}) Failure → Type 0
AppendsRow kind width zs ys old new (Ok done) = (row : Linear) × IsAppended width zs ys row × Takes (one_row kind row) old new
AppendsRow kind width zs ys old new (Err f) = FailsBy (line_with kind (width + 1)) old f

-- the numbers of `count` rows over `width` columns are put after others
pub record AreAppended (width count : ℕ) (zs ys : List ℤ) (rows : List Linear) : Type 0 where
  pub wide : AreMany (IsWide width) count rows
  pub narrow : All IsNarrowRow rows
  pub numbers : ys ≡ zs ++ packed rows

-- `count` rows are read, and their numbers are put after others
abbrev pub AppendsRows : NumberLine → ℕ → ℕ → List ℤ → List ℤ → Cursor → Cursor → Result (Unit {0}) Failure → Type 0
AppendsRows kind width count zs ys old new (Ok done) = (rows : List Linear) × AreAppended width count zs ys rows × Takes (row_lines (head_of kind) rows) old new
AppendsRows kind width count zs ys old new (Err f) = FailsBy (many count (line_with kind (width + 1))) old f

abbrev pub lists_in : Vec (Vec ℤ) → List (List ℤ)
lists_in v = map (λ l. l.items) v.items

-- `count` lines of multipliers are read
abbrev pub ReadsLists : ℕ → ℕ → Cursor → Cursor → Result (Vec (Vec ℤ)) Failure → Type 0
ReadsLists wide count old new result = Reads lists_in (AreMany (AreNumbers wide) count) by_lines (many count (line_with By wide)) old new result

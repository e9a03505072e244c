use Rattle.std.specs.Prelude.{◌≡◌, ℕ, ◌%◌, ◌<◌, List, length, get_or, Vec}
use Rattle.std.specs.Int.{bit_at}
use Rattle.tv_simplex.specs.declared.rows.Entry.{Entry}
use Rattle.tv_simplex.specs.Rows.{none, entry_in, row_of}

-- the classes of the columns are as many as a mask has bits
abbrev pub class_of : ℕ → ℕ
class_of column = column % 64

-- where the bit of a class is 0, the row has 0 in each of the first `columns` columns that is of this class
abbrev pub AreMarksOf : ℕ → List Entry → ℕ → Type 0
AreMarksOf columns row marks = (column : ℕ) → column < columns → bit_at marks (class_of column) ≡ 0 → entry_in row column ≡ none

-- each of the first rows has its marks
pub record AreMarked {A : Type 0} (columns height : ℕ) (rows : List (Vec Entry A)) (marks : List ℕ) : Type 0 where
  pub size : length marks ≡ height
  pub each : (i : ℕ) → i < height → AreMarksOf columns (row_of rows i) (get_or marks i 0)

-- each of the first rows has its marks, except perhaps the rows of these entries of a column
pub record AreMarkedBut {A : Type 0} (entries : List Entry) (columns height : ℕ) (rows : List (Vec Entry A)) (marks : List ℕ) : Type 0 where
  pub size : length marks ≡ height
  pub each : (i : ℕ) → i < height → entry_in entries i ≡ none → AreMarksOf columns (row_of rows i) (get_or marks i 0)

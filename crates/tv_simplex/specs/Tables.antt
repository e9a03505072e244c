use Rattle.std.specs.Prelude.{◌≡◌, ℕ, ◌+◌, length}
use Rattle.tv_simplex.specs.Ratios.{Ratio}
use Rattle.tv_simplex.specs.declared.table.Table.{Table}
use Rattle.tv_simplex.specs.Rows.{read, IsGrid}
use Rattle.tv_simplex.specs.Marks.{AreMarked}

-- the number of columns: those of the system, the artificial ones, and the right side
abbrev pub width_of : Table → ℕ
width_of t = t.columns + length t.basis.items + 1

-- the fraction in a row and a column of the tableau
abbrev pub shown : Table → ℕ → ℕ → Ratio
shown t i j = read t.rows.items i j

-- there is a row for each column of the basis, and one more; all are sparse, and all but the last are marked
pub record IsTable (t : Table) : Type 0 where
  pub height : length t.rows.items ≡ length t.basis.items + 1
  pub grid : IsGrid (width_of t) t.rows.items
  pub marks : AreMarked t.columns (length t.basis.items) t.rows.items t.marks.items

-- a tableau of m rows and n columns, the objective row, the artificial columns and the right side not counted
pub record HasSize (m n : ℕ) (t : Table) : Type 0 where
  pub basis : length t.basis.items ≡ m
  pub columns : t.columns ≡ n

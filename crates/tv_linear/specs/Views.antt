use Rattle.std.specs.Prelude.{List}
use Rattle.tv_linear.specs.Linear.{Linear, linear}
use Rattle.tv_linear.specs.Packed.{unpacked}
use Rattle.tv_linear.specs.declared.view.RowView.{RowView}
use Rattle.tv_linear.specs.declared.packed.PackedRows.{PackedRows}
use Rattle.tv_linear.specs.declared.rows.Rows.{Rows}
use Rattle.tv_linear.specs.declared.rows.Rows.TheVariants.{Each, Packed}

-- the row that is lent
abbrev pub row_seen : RowView → Linear
row_seen view = linear view.coefficients.now view.constant

-- the rows that are lent from a list of numbers
abbrev pub rows_packed : PackedRows → List Linear
rows_packed view = unpacked view.columns view.count view.numbers.now

-- the rows that are lent
abbrev pub rows_seen : Rows → List Linear
rows_seen (Each rows) = rows.now
rows_seen (Packed view) = rows_packed view

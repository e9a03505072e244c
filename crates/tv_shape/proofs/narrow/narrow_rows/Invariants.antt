use Rattle.std.proofs.Common.{All, take}
use Rattle.tv_shape.specs.Narrow.{RowNarrow}
use Rattle.tv_shape.proofs.narrow.narrow_rows.Given as goal

abbrev pub invariant-loop-row : goal.invariant-loop-row
invariant-loop-row l = All RowNarrow (take l.row-index l.rows)

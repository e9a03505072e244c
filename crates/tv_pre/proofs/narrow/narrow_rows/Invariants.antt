use Rattle.std.proofs.Common.{All, take}
use Rattle.tv_linear.specs.Linear.{IsNarrow}
use Rattle.tv_pre.proofs.narrow.narrow_rows.Given as goal

abbrev pub invariant-loop-row : goal.invariant-loop-row
invariant-loop-row l = All IsNarrow (take l.row-index l.rows)

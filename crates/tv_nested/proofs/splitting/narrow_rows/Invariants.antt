use Rattle.std.proofs.Common.{All, take}
use Rattle.tv_linear.specs.Linear.{IsNarrow}
use Rattle.tv_nested.proofs.splitting.narrow_rows.Given as goal

abbrev pub invariant-rows : goal.invariant-rows
invariant-rows l = All IsNarrow (take l.row-index l.rows)

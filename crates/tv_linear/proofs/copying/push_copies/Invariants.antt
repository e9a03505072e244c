use Rattle.std.proofs.Common.{◌≡◌, ◌++◌, take, All}
use Rattle.tv_linear.specs.Linear.{IsNarrow}
use Rattle.tv_linear.proofs.copying.push_copies.Given as goal

abbrev pub invariant-rows : goal.invariant-rows
invariant-rows l = (l.list.items ≡ l.fn.list.items ++ take l.row-index l.rows) × All IsNarrow (take l.row-index l.rows)

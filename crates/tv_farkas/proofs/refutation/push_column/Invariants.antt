use Rattle.std.proofs.Common.{◌≡◌, ◌++◌, map, take}
use Rattle.tv_linear.specs.Linear.{entry}
use Rattle.tv_farkas.proofs.refutation.push_column.Given as goal

abbrev pub invariant-rows : goal.invariant-rows
invariant-rows l = l.numbers ≡ l.fn.numbers ++ map (λ r. entry r l.column) (take l.row-index l.rows)

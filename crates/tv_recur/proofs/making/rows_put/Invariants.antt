use Rattle.std.proofs.Common.{take}
use Rattle.tv_recur.specs.Making.{ArePut}
use Rattle.tv_recur.proofs.making.rows_put.Given as goal

abbrev pub invariant-rows : goal.invariant-rows
invariant-rows l = ArePut l.terms (take l.row-index l.rows) l.all.items

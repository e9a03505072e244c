use Rattle.std.proofs.Common.{take}
use Rattle.tv_farkas.proofs.TakenLemmas.{TakenTo}
use Rattle.tv_farkas.proofs.rows.take_once.Given as goal

abbrev pub invariant-rows : goal.invariant-rows
invariant-rows l = TakenTo (take l.row-index l.rows) l.repeated.items l.kept.items

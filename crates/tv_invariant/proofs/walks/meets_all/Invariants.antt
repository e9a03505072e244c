use Rattle.std.proofs.Common.{All, take}
use Rattle.tv_linear.specs.Linear.{IsMet}
use Rattle.tv_invariant.proofs.walks.meets_all.Given as goal

abbrev pub invariant-rows : goal.invariant-rows
invariant-rows l = All (IsMet l.point) (take l.row-index l.rows)

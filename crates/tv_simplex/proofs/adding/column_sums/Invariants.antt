use Rattle.tv_simplex.specs.Views.{equations}
use Rattle.tv_simplex.specs.Starting.{AreSums}
use Rattle.tv_simplex.proofs.adding.column_sums.Given as goal

abbrev pub invariant-rows : goal.invariant-rows
invariant-rows l = AreSums (equations l.system) l.row l.sums.items

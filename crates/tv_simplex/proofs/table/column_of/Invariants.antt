use Rattle.tv_simplex.specs.Walking.{AreOfColumn}
use Rattle.tv_simplex.specs.Tables.{shown}
use Rattle.tv_simplex.proofs.table.column_of.Given as goal

abbrev pub invariant-rows : goal.invariant-rows
invariant-rows l = AreOfColumn l.row l.column (shown l.table) l.fractions.items

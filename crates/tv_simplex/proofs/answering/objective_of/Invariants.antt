use Rattle.tv_simplex.specs.Walking.{AreOfObjective}
use Rattle.tv_simplex.specs.Tables.{shown}
use Rattle.tv_simplex.proofs.answering.objective_of.Given as goal

abbrev pub invariant-rows : goal.invariant-rows
invariant-rows l = AreOfObjective l.row l.columns (shown l.table l.rows) l.fractions.items

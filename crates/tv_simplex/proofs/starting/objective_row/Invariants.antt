use Rattle.tv_simplex.specs.Views.{equations}
use Rattle.tv_simplex.specs.Rows.{IsRow}
use Rattle.tv_simplex.specs.Starting.{IsNumber, first_objective}
use Rattle.tv_simplex.proofs.starting.objective_row.Given as goal

abbrev pub invariant-columns : goal.invariant-columns
invariant-columns l = IsRow (IsNumber (first_objective (equations l.system))) l.column l.entries.items

use Rattle.tv_simplex.specs.Rows.{IsColumn}
use Rattle.tv_simplex.specs.Tables.{shown}
use Rattle.tv_simplex.proofs.table.collect_column.Given as goal

abbrev pub invariant-rows : goal.invariant-rows
invariant-rows l = IsColumn l.row l.column (shown l.table) l.entries.items

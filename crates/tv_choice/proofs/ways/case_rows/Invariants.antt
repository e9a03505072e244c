use Rattle.std.proofs.Common.{take}
use Rattle.tv_cases.specs.Views.{case_view}
use Rattle.tv_choice.proofs.WayLemmas.{AreMade}
use Rattle.tv_choice.proofs.ways.case_rows.Given as goal

abbrev pub invariant-owed : goal.invariant-owed
invariant-owed l = AreMade l.columns (case_view l.case) (take l.row-index l.owed) l.rows.items

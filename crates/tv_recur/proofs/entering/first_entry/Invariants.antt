use Rattle.tv_cases.specs.Systems.{cases_of}
use Rattle.tv_cases.specs.Views.{case_view}
use Rattle.tv_recur.specs.Keeping.{NoEntryBelow}
use Rattle.tv_recur.proofs.entering.first_entry.Given as goal

abbrev pub invariant-numbers : goal.invariant-numbers
invariant-numbers l = NoEntryBelow (cases_of l.search.about.now) (case_view l.kept) l.number

use Rattle.tv_cases.specs.Systems.{cases_of}
use Rattle.tv_recur.specs.Keeping.{NoLoopBelow}
use Rattle.tv_recur.proofs.searching.first_loop.Given as goal

abbrev pub invariant-numbers : goal.invariant-numbers
invariant-numbers l = NoLoopBelow (cases_of l.search.about.now) l.number

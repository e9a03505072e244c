use Rattle.tv_cases.specs.Systems.{cases_of}
use Rattle.tv_recur.specs.Staying.{NeverStaysBelow}
use Rattle.tv_recur.proofs.searching.first_stay.Given as goal

abbrev pub invariant-numbers : goal.invariant-numbers
invariant-numbers l = NeverStaysBelow (cases_of l.search.about.now) l.number

use Rattle.tv_invariant.specs.Reached.{AreDrawn}
use Rattle.tv_invariant.proofs.walks.push_numbers.Given as goal

abbrev pub invariant-numbers : goal.invariant-numbers
invariant-numbers l = AreDrawn l.counter l.fn.list.items l.list.items

use Rattle.tv_cases.specs.Systems.{cases_of}
use Rattle.tv_rank.specs.Given.{lists}
use Rattle.tv_lexrank.specs.Greedy.{AreFirst}
use Rattle.tv_lexrank.proofs.greedy.take_turn.Given as goal

abbrev pub invariant-places : goal.invariant-places
invariant-places l = AreFirst (cases_of l.component.about.now) l.component.known.now.pieces.items l.set l.place (lists l.barriers.items)

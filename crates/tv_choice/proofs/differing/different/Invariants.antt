use Rattle.tv_choice.proofs.DifferLemmas.{AreKept}
use Rattle.tv_choice.proofs.differing.different.Given as goal

abbrev pub invariant-ways : goal.invariant-ways
invariant-ways l = AreKept l.fn.ways.items l.kept.items l.way-iterator.rest.items

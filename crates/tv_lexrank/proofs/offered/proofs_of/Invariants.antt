use Rattle.tv_lexrank.specs.Offered.{AreShownBelow}
use Rattle.tv_lexrank.proofs.offered.proofs_of.Given as goal

abbrev pub invariant-locations : goal.invariant-locations
invariant-locations l = AreShownBelow l.ranking l.location l.proofs.items

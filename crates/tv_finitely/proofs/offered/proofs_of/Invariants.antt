use Rattle.tv_finitely.specs.Proofs.{AreProofsBelow}
use Rattle.tv_finitely.proofs.offered.proofs_of.Given as goal

abbrev pub invariant-locations : goal.invariant-locations
invariant-locations l = AreProofsBelow l.ranking l.location l.proofs.items

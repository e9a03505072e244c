use Rattle.tv_settling.specs.Nodes.{AreShownBelow}
use Rattle.tv_settling.proofs.offered.proofs_of.Given as goal

abbrev pub invariant-locations : goal.invariant-locations
invariant-locations l = AreShownBelow l.barrier l.location l.proofs.items

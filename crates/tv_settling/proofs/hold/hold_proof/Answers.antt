use Rattle.std.proofs.Common.{sym, subst}
use Rattle.tv_settling.specs.Nodes.{IsHoldProof}
use Rattle.tv_settling.proofs.ShownLemmas.{bare_holds}
use Rattle.tv_settling.proofs.hold.hold_proof.Goals as goal

pub returns-then-location-barrier-clause-shows : goal.returns-then-location-barrier-clause-shows
returns-then-location-barrier-clause-shows c = bare_holds c.args.barrier.now c.args.location c.bare_proof.result c.requires c.if-location-barrier.true c.bare_proof.ensures

pub returns-in-Ok-clause-shows : goal.returns-in-Ok-clause-shows
returns-in-Ok-clause-shows c = subst (λ l. IsHoldProof c.args.barrier.now l c.in-Ok.proof) (sym c.if-location-barrier.false) c.in-Ok.ensures.shows

use Rattle.tv_finitely.proofs.StepCovers.{location_more}
use Rattle.tv_finitely.proofs.offered.proofs_of.Goals as goal

pub locations-preserved : goal.locations-preserved
locations-preserved c = location_more c.args.ranking.now c.locations.location c.locations.proofs.items _ c.locations.invariant c.in-Ok.ensures.shown

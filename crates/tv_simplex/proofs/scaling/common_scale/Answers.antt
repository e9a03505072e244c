use Rattle.tv_simplex.proofs.ScaleLemmas.{common_none, common_more, common_ends}
use Rattle.tv_simplex.proofs.scaling.common_scale.Goals as goal

pub places-init : goal.places-init
places-init c = common_none c.args.fractions.now

pub places-preserved : goal.places-preserved
places-preserved c = common_more c.args.fractions.now c.places.j c.places.scale c.denominator_at.result c.in-Some.larger c.denominator_at.ensures.is c.places.invariant c.in-Some.ensures

pub returns-in-None : goal.returns-in-None
returns-in-None c = common_ends c.args.fractions.now c.places.j c.places.scale c.denominator_at.result c.places-test.true c.denominator_at.ensures.is c.places.invariant c.in-None.ensures

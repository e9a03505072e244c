use Rattle.tv_invariant.proofs.PickLemmas.{marks-none, marks-more}
use Rattle.tv_invariant.proofs.thinning.marks_of.Goals as goal

pub places-init : goal.places-init
places-init c = marks-none c.args.tree.now c.in_ok-marks.marks.items c.in_ok-marks.ensures.items

pub places-preserved : goal.places-preserved
places-preserved c = marks-more c.args.tree.now c.places.place c.places.marks.items c.push.new.self.items c.uses.result c.places.invariant c.in_ok-push.ensures.items c.uses.ensures

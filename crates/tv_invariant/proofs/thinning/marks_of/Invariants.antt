use Rattle.tv_invariant.specs.Thinning.{AreMarks}
use Rattle.tv_invariant.proofs.thinning.marks_of.Given as goal

abbrev pub invariant-places : goal.invariant-places
invariant-places l = AreMarks l.tree l.place l.marks.items

use Rattle.std.proofs.Common.{take}
use Rattle.tv_lexrank.specs.Known.{AreBare}
use Rattle.tv_lexrank.proofs.known.rowed_at.Given as goal

abbrev pub invariant-places : goal.invariant-places
invariant-places l = AreBare (take l.place l.known)

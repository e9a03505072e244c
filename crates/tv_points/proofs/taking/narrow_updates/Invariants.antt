use Rattle.std.proofs.Common.{All, take}
use Rattle.tv_linear.specs.Linear.{IsNarrow}
use Rattle.tv_points.proofs.taking.narrow_updates.Given as goal

abbrev pub invariant-loop-update : goal.invariant-loop-update
invariant-loop-update l = All (λ u. IsNarrow u.term) (take l.update-index l.updates)

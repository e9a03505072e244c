use Rattle.std.proofs.Common.{◌-◌}
use Rattle.tv_refute.specs.Blocks.{AreCancelled}
use Rattle.tv_refute.specs.Frames.{known_at}
use Rattle.tv_refute.proofs.refute.are_cancelled_in.Given as goal

abbrev pub invariant-loop-first : goal.invariant-loop-first
invariant-loop-first l = AreCancelled l.multipliers (known_at l.frames) l.first

abbrev pub decreases-loop-first : goal.decreases-loop-first
decreases-loop-first l = l.columns - l.first

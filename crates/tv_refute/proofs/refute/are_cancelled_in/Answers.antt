use Rattle.std.proofs.Common.{refl}
use Rattle.tv_refute.specs.Frames.{known_at}
use Rattle.tv_refute.proofs.Refuting.{cancelled_next}
use Rattle.tv_refute.proofs.refute.are_cancelled_in.Goals as goal

pub loop-first-preserved : goal.loop-first-preserved
loop-first-preserved c = cancelled_next c.args.multipliers.now (known_at c.args.frames.now) c.loop-first.first c.min-width.result c.sums_at.new.totals c.loop-first.invariant c.if-not-sums_at.ensures.told (c.if-not-are_zero.ensures.0 refl)

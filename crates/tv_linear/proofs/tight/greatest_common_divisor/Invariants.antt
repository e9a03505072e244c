use Rattle.std.proofs.Common.{ℕ, ◌<◌, ◌^◌}
use Rattle.std.specs.Int.{IsGcd}
use Rattle.tv_linear.proofs.tight.greatest_common_divisor.Given as goal

abbrev pub invariant-loop-y : goal.invariant-loop-y
invariant-loop-y l = record {
  same : (g : ℕ) → IsGcd l.x l.y g → IsGcd l.fn.left l.fn.right g;
  left : l.x < 2 ^ 62;
  right : l.y < 2 ^ 62;
}

abbrev pub decreases-loop-y : goal.decreases-loop-y
decreases-loop-y l = l.y

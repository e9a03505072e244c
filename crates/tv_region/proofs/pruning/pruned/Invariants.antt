use Rattle.std.proofs.Common.{length}
use Rattle.tv_cases.specs.Given.{lists}
use Rattle.tv_region.proofs.PruneLemmas.{IsPruning}
use Rattle.tv_region.proofs.pruning.pruned.Given as goal

abbrev pub invariant-left : goal.invariant-left
invariant-left l = IsPruning l.limits.columns (lists l.fn.all) (lists l.left) (lists l.kept)

abbrev pub decreases-left : goal.decreases-left
decreases-left l = length l.left.items

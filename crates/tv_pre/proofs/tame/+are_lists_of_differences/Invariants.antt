use Rattle.std.proofs.Common.{length}
use Rattle.tv_pre.proofs.tame.+are_lists_of_differences.Given as goal

abbrev pub decreases-are_lists_of_differences : goal.decreases-are_lists_of_differences
decreases-are_lists_of_differences l = length l.lists.now

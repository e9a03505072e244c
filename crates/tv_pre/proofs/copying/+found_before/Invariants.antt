use Rattle.std.proofs.Common.{length}
use Rattle.tv_pre.proofs.copying.+found_before.Given as goal

abbrev pub decreases-found_before : goal.decreases-found_before
decreases-found_before l = length l.aims.now

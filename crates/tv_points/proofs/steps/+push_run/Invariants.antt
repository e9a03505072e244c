use Rattle.std.proofs.Common.{length}
use Rattle.tv_points.proofs.steps.+push_run.Given as goal

abbrev pub decreases-push_run : goal.decreases-push_run
decreases-push_run l = length l.steps.now

use Rattle.std.proofs.Common.{length}
use Rattle.tv_points.proofs.steps.+push_choices.Given as goal

abbrev pub decreases-push_choices : goal.decreases-push_choices
decreases-push_choices l = length l.steps.now

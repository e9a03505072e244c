use Rattle.std.proofs.Common.{◌+◌}
use Rattle.tv_check_text.proofs.choices.ChoiceCheck.+is_met.Given as goal

abbrev pub decreases-is_met : goal.decreases-is_met
decreases-is_met l = l.left + l.left

abbrev pub decreases-sides_are_met : goal.decreases-sides_are_met
decreases-sides_are_met l = l.left + l.left + 1

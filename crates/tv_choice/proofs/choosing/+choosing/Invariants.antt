use Rattle.std.proofs.Common.{◌+◌, ◌*◌}
use Rattle.tv_choice.proofs.choosing.+choosing.Given as goal

abbrev pub decreases-settle : goal.decreases-settle
decreases-settle l = 6 * l.left + 4

abbrev pub decreases-stop_or_go : goal.decreases-stop_or_go
decreases-stop_or_go l = 6 * l.left + 3

abbrev pub decreases-go_or_split : goal.decreases-go_or_split
decreases-go_or_split l = 6 * l.left + 3

abbrev pub decreases-go_on : goal.decreases-go_on
decreases-go_on l = 6 * l.left + 2

abbrev pub decreases-split_way : goal.decreases-split_way
decreases-split_way l = 6 * l.left + 1

abbrev pub decreases-split : goal.decreases-split
decreases-split l = 6 * l.left + 6

abbrev pub decreases-settle_side : goal.decreases-settle_side
decreases-settle_side l = 6 * l.left + 5

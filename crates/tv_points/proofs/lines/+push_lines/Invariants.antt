use Rattle.std.proofs.Common.{length}
use Rattle.tv_linear.specs.Views.{rows_seen}
use Rattle.tv_points.proofs.lines.+push_lines.Given as goal

abbrev pub decreases-push_lines : goal.decreases-push_lines
decreases-push_lines l = length (rows_seen l.rows)

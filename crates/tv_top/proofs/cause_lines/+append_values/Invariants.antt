use Rattle.std.proofs.Common.{length}
use Rattle.tv_top.proofs.cause_lines.+append_values.Given as goal

abbrev pub decreases-append_values : goal.decreases-append_values
decreases-append_values l = length l.values.now

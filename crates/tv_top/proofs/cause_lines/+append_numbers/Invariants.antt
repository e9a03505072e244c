use Rattle.std.proofs.Common.{length}
use Rattle.tv_top.proofs.cause_lines.+append_numbers.Given as goal

abbrev pub decreases-append_numbers : goal.decreases-append_numbers
decreases-append_numbers l = length l.numbers.now

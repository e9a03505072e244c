use Rattle.std.proofs.Common.{◌≡◌, ◌++◌, length}
use Rattle.tv_lines.specs.Writing.{spaced}
use Rattle.tv_lines.proofs.writing.append_numbers.Given as goal

abbrev pub invariant-numbers : goal.invariant-numbers
invariant-numbers l = l.out.items ++ spaced l.rest ≡ l.fn.out.items ++ spaced l.fn.numbers

abbrev pub decreases-numbers : goal.decreases-numbers
decreases-numbers l = length l.rest

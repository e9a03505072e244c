use Rattle.std.proofs.Common.{◌≡◌, ◌+◌, length}
use Rattle.tv_language.specs.Gaps.{gap_length}
use Rattle.tv_language.proofs.gap.gap_length.Given as goal

abbrev pub invariant-loop-n : goal.invariant-loop-n
invariant-loop-n l = record { all : gap_length l.text ≡ l.passed + gap_length l.rest; within : l.passed + length l.rest ≡ length l.text }

abbrev pub decreases-loop-n : goal.decreases-loop-n
decreases-loop-n l = length l.rest

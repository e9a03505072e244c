use Rattle.std.proofs.Common.{◌≡◌, ◌+◌, length}
use Rattle.std.specs.Option.{option_map}
use Rattle.tv_language.specs.Gaps.{closing}
use Rattle.tv_language.proofs.gap.closing.Given as goal

abbrev pub invariant-loop-rest : goal.invariant-loop-rest
invariant-loop-rest l = record { all : closing l.bytes ≡ option_map (λ n. n + l.passed) (closing l.rest); within : l.passed + length l.rest ≡ length l.bytes }

abbrev pub decreases-loop-rest : goal.decreases-loop-rest
decreases-loop-rest l = length l.rest

use Rattle.std.proofs.Common.{◌≡◌, ◌≤◌, length}
use Rattle.tv_language.specs.Fronts.{end_of_last}
use Rattle.tv_language.proofs.scanner.end_of_last.Given as goal

abbrev pub invariant-loop-rest : goal.invariant-loop-rest
invariant-loop-rest l = record { same : end_of_last l.close l.text ≡ end_of_last l.close l.rest; within : length l.rest ≤ length l.text }

abbrev pub decreases-loop-rest : goal.decreases-loop-rest
decreases-loop-rest l = length l.rest

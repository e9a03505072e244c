use Rattle.tv_pre.specs.Finding.{IsAbsent}
use Rattle.tv_pre.proofs.differences.is_at_most_once.Given as goal

abbrev pub invariant-numbers : goal.invariant-numbers
invariant-numbers l = IsAbsent l.wanted l.numbers 0 l.place

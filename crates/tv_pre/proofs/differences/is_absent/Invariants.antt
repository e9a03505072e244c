use Rattle.tv_pre.specs.Finding.{IsAbsent}
use Rattle.tv_pre.proofs.differences.is_absent.Given as goal

abbrev pub invariant-numbers : goal.invariant-numbers
invariant-numbers l = IsAbsent l.wanted l.numbers l.from l.place

use Rattle.std.specs.Prelude.{IfSome}
use Rattle.tv_cases.specs.Systems.{cases_of}
use Rattle.tv_invariant.specs.Reached.{IsReached}
use Rattle.tv_invariant.proofs.walks.next.Given as goal

abbrev pub invariant-cases : goal.invariant-cases
invariant-cases l = IfSome l.found (IsReached (cases_of l.fn.about))

use Rattle.tv_cases.specs.Systems.{cases_of}
use Rattle.tv_invariant.specs.Sieves.{Sieved}
use Rattle.tv_invariant.specs.Reached.{IsInNone}
use Rattle.tv_invariant.proofs.reached.met_at.Given as goal

abbrev pub invariant-candidates : goal.invariant-candidates
invariant-candidates l = Sieved (λ c. Unit {0}) (IsInNone (cases_of l.fn.about)) l.yielded l.kept.items

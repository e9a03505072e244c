use Rattle.tv_cases.specs.Systems.{cases_of}
use Rattle.tv_invariant.specs.Sieves.{Sieved}
use Rattle.tv_invariant.specs.Falling.{Begins, IsInNoPart}
use Rattle.tv_invariant.proofs.start.begin.Given as goal

abbrev pub invariant-candidates : goal.invariant-candidates
invariant-candidates l = Sieved (Begins (cases_of l.fn.about)) (IsInNoPart (cases_of l.fn.about) l.fn.candidates.items) l.yielded l.kept.items

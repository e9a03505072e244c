use Rattle.std.proofs.Common.{◌≡◌, length}
use Rattle.std.specs.Prelude.{All}
use Rattle.tv_cases.specs.Systems.{cases_of}
use Rattle.tv_invariant.specs.Falling.{IsLeft, Begins}
use Rattle.tv_invariant.specs.Passes.{ClosedKeep}
use Rattle.tv_invariant.proofs.inductive.largest_inductive.Given as goal

abbrev pub invariant-passes : goal.invariant-passes
invariant-passes l = record {
  as_many : length l.tries.open.items ≡ length (cases_of l.fn.about).cases;
  left : IsLeft (cases_of l.fn.about) l.fn.candidates.items l.now.items;
  begins : All (Begins (cases_of l.fn.about)) l.now.items;
  closed : ClosedKeep (cases_of l.fn.about) l.now.items l.tries.open.items;
}

abbrev pub decreases-passes : goal.decreases-passes
decreases-passes l = length l.now.items

use Rattle.std.proofs.Common.{◌≡◌, length}
use Rattle.tv_cases.specs.Systems.{cases_of}
use Rattle.tv_invariant.specs.Passes.{IsPassed}
use Rattle.tv_invariant.proofs.passes.pass.Given as goal

abbrev pub invariant-cases : goal.invariant-cases
invariant-cases l = record {
  as_many : length l.tries.open.items ≡ length l.fn.tries.open.items;
  passed : IsPassed (cases_of l.fn.about) l.number l.fn.old.items l.now.items l.fn.tries.open.items l.tries.open.items;
}

use Rattle.std.proofs.Common.{All}
use Rattle.tv_cases.specs.Systems.{cases_of}
use Rattle.tv_invariant.specs.Reached.{IsReached}
use Rattle.tv_invariant.proofs.walks.walk.Given as goal

abbrev pub invariant-steps : goal.invariant-steps
invariant-steps l = record {
  state : IsReached (cases_of l.fn.about) l.state;
  states : All (IsReached (cases_of l.fn.about)) l.states.items;
}

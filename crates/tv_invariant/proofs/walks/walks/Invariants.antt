use Rattle.std.proofs.Common.{All}
use Rattle.tv_cases.specs.Systems.{cases_of}
use Rattle.tv_invariant.specs.Reached.{IsReached}
use Rattle.tv_invariant.proofs.walks.walks.Given as goal

abbrev pub invariant-runs : goal.invariant-runs
invariant-runs l = All (IsReached (cases_of l.fn.about)) l.states.items

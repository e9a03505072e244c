use Rattle.std.proofs.Common.{◌≤◌}
use Rattle.tv_cases.specs.Systems.{cases_of}
use Rattle.tv_invariant.specs.Passes.{AreOver}
use Rattle.tv_invariant.proofs.AskLemmas.{Asked}
use Rattle.tv_invariant.proofs.asking.ask.Given as goal

abbrev pub invariant-offers : goal.invariant-offers
invariant-offers g l = record {
  over : AreOver (cases_of l.fn.about).variables l.list.items;
  fewer : (goal.Proposer-dyn g l.proposer.now).left l.proposer.now.1 ≤ (goal.Proposer-dyn g l.fn.proposer.now).left l.fn.proposer.now.1;
  asked : Asked (cases_of l.fn.about) ((goal.Proposer-dyn g l.fn.proposer.now).rest l.fn.proposer.now.1 (cases_of l.fn.about)) ((goal.Proposer-dyn g l.proposer.now).rest l.proposer.now.1 (cases_of l.fn.about)) l.fn.list.items l.list.items;
}

abbrev pub decreases-offers : goal.decreases-offers
decreases-offers g l = (goal.Proposer-dyn g l.proposer.now).left l.proposer.now.1

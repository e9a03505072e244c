use Rattle.std.proofs.Common.{length}
use Rattle.tv_cases.specs.Systems.{cases_of}
use Rattle.tv_invariant.specs.Passes.{AreOver}
use Rattle.tv_invariant.proofs.AskLemmas.{AskedAll}
use Rattle.tv_invariant.proofs.asking.ask_all.Given as goal

abbrev pub invariant-proposers : goal.invariant-proposers
invariant-proposers g l = record {
  over : AreOver (cases_of l.fn.about).variables l.list.items;
  asked : AskedAll (cases_of l.fn.about) (λ p. (goal.Proposer-dyn g (p.vtable, p.value)).rest p.value (cases_of l.fn.about)) l.fn.proposers.items l.fn.list.items l.proposers.items l.list.items;
}

abbrev pub decreases-proposers : goal.decreases-proposers
decreases-proposers g l = length l.proposers.items

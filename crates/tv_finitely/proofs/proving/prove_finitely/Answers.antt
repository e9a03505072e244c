use Rattle.std.proofs.Common.{subst}
use Rattle.tv_invariant.proofs.AskLemmas.{no_more_same}
use Rattle.tv_finitely.specs.Refusals.{IsFirstFound}
use Rattle.tv_finitely.specs.Splits.{split_of}
use Rattle.tv_finitely.proofs.RefusalLemmas.{first_refusal, visits_hold, found_hold}
use Rattle.tv_finitely.proofs.proving.prove_finitely.Goals as goal

pub returns-in-Ok-Some-clause-finite : goal.returns-in-Ok-Some-clause-finite
returns-in-Ok-Some-clause-finite g c = λ p f split.
    let s = split_of c.args.about.now in
    visits_hold s p f split c.in-Ok-Some.visits (subst (IsFirstFound s) c.in-Ok-Some.field-0-is c.in-Ok-Some.ensures.found)

pub returns-in-Ok-Some-clause-kept : goal.returns-in-Ok-Some-clause-kept
returns-in-Ok-Some-clause-kept g c = no_more_same (λ p. (goal.Proposer-dyn g (p.vtable, p.value)).left p.value) c.args.proposers.now.items

pub returns-in-Ok-None-clause-finite : goal.returns-in-Ok-None-clause-finite
returns-in-Ok-None-clause-finite g c = λ p f split. found_hold (split_of c.args.about.now) p f split c.found_visits.result c.found_visits.ensures.visits

pub returns-in-Err-clause-refusals : goal.returns-in-Err-clause-refusals
returns-in-Err-clause-refusals g c = first_refusal (split_of c.args.about.now) _ c.args.budget.now c.in-Err.fault c.in-Err.ensures.refusals

pub returns-in-Err-clause-kept : goal.returns-in-Err-clause-kept
returns-in-Err-clause-kept g c = no_more_same (λ p. (goal.Proposer-dyn g (p.vtable, p.value)).left p.value) c.args.proposers.now.items

use Rattle.std.proofs.Common.{sym, subst}
use Rattle.tv_cases.specs.Systems.{cases_of}
use Rattle.tv_candidates.specs.Inductive.{IsLargestInductive}
use Rattle.tv_invariant.specs.Asking.{HaveNoMore}
use Rattle.tv_invariant.proofs.PassLemmas.{over_part}
use Rattle.tv_invariant.proofs.AskLemmas.{if_refused, no_more_same, no_more_none, offered_list, has_false_parts}
use Rattle.tv_invariant.proofs.strengthening.strengthen.Goals as goal

pub returns-in_err-list-clause-kept : goal.returns-in_err-list-clause-kept
returns-in_err-list-clause-kept g c =
    if_refused _ c.from_residual.result (no_more_same (λ p. (goal.Proposer-dyn g (p.vtable, p.value)).left p.value) c.args.proposers.now.items)

pub returns-in-Err-clause-kept : goal.returns-in-Err-clause-kept
returns-in-Err-clause-kept g c =
    subst (λ ps. HaveNoMore (λ p. (goal.Proposer-dyn g (p.vtable, p.value)).left p.value) c.args.proposers.now.items ps) (sym c.in_ok-ask_all.ensures.asked)
    (no_more_none (λ p. (goal.Proposer-dyn g (p.vtable, p.value)).left p.value) c.args.proposers.now.items)

pub returns-in-Ok-clause-contains : goal.returns-in-Ok-clause-contains
returns-in-Ok-clause-contains g c =
    let about = cases_of c.args.about.now in
    let given = c.in_ok-ask_all.ensures.given in
    let list = offered_list about c.in_ok-list.list.items c.ask_all.new.list.items given.0 c.in_ok-list.ensures.exact given.2 in
    has_false_parts about given.0 c.in-Ok.part.items (subst (λ cs. IsLargestInductive about cs c.in-Ok.part.items) list c.in-Ok.ensures.largest)

pub returns-in-Ok-clause-over : goal.returns-in-Ok-clause-over
returns-in-Ok-clause-over g c =
    over_part (cases_of c.args.about.now).variables c.ask_all.new.list.items c.in-Ok.part.items c.in_ok-ask_all.ensures.over c.in-Ok.ensures.largest.within

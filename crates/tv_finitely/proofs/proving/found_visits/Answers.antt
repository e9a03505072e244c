use Rattle.std.proofs.Common.{sym, subst}
use Rattle.std.specs.Result.{IfErr}
use Rattle.tv_invariant.specs.Asking.{HaveNoMore}
use Rattle.tv_invariant.proofs.AskLemmas.{no_more_none}
use Rattle.tv_finitely.specs.Refusals.{RefusesRows}
use Rattle.tv_finitely.specs.Splits.{split_of}
use Rattle.tv_finitely.proofs.RefusalLemmas.{found_refusal}
use Rattle.tv_finitely.proofs.proving.found_visits.Goals as goal

pub returns-in-Ok-clause-refusals : goal.returns-in-Ok-clause-refusals
returns-in-Ok-clause-refusals g c =
    let s = split_of c.args.about.now in
    found_refusal s _ c.args.budget.now c.in-Ok.list.items c.later_visits.result
    (record { strengthened = c.in-Ok.ensures.largest; inductive = c.in-Ok.ensures.inductive; least = c.in-Ok.ensures.contains })
    (subst (λ list. IfErr c.later_visits.result (RefusesRows s list c.args.budget.now)) c.deref.ensures.value c.later_visits.ensures.refusals)

pub returns-in-Ok-clause-kept : goal.returns-in-Ok-clause-kept
returns-in-Ok-clause-kept g c =
    subst (λ ps. HaveNoMore (λ p. (goal.Proposer-dyn g (p.vtable, p.value)).left p.value) c.args.proposers.now.items ps) (sym c.in-Ok.ensures.asked)
    (no_more_none (λ p. (goal.Proposer-dyn g (p.vtable, p.value)).left p.value) c.args.proposers.now.items)

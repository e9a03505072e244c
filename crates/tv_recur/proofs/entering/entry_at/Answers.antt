use Rattle.std.proofs.Common.{◌≡◌, ◌+◌, All, sym, subst}
use Rattle.tv_linear.specs.Linear.{columns}
use Rattle.tv_cases.specs.Systems.{cases_of}
use Rattle.tv_cases.specs.Views.{case_view}
use Rattle.tv_recur.proofs.KeepLemmas.{entering_wide}
use Rattle.tv_recur.proofs.ReadLemmas.{case_is}
use Rattle.std.proofs.Common.{ap}
use Rattle.tv_derived.specs.Scopes.{at_location, over_case}
use Rattle.tv_recur.specs.Refusing.{AreFrom}
use Rattle.tv_recur.proofs.RefusalLemmas.{empty_refused, entering_from}
use Rattle.tv_recur.proofs.entering.entry_at.Goals as goal
use Rattle.tv_linear.proofs.ListLaws.{contains_at}

pub empty-requires-clause-even : goal.empty-requires-clause-even
empty-requires-clause-even c =
    let about = cases_of c.args.search.now.about.now in
    let case = case_view c.in-Some.case.now in
    let good = case_is about c.args.number case c.args.search.now.about.now.are_cases c.in-Some.ensures in
    subst (λ k. All (λ r. columns r ≡ k + case.draws) c.deref.result.now) (sym c.variables.ensures.same)
    (subst (All (λ r. columns r ≡ about.variables + case.draws)) (sym c.deref.ensures.value)
    (entering_wide about.variables case (case_view c.args.kept.now).guards c.in-Ok.rows.items c.in-Ok.ensures.entering good.guards good.terms c.requires.even))

pub returns-in-Err-empty-clause-refusals : goal.returns-in-Err-empty-clause-refusals
returns-in-Err-empty-clause-refusals c =
    let about = cases_of c.args.search.now.about.now in
    let b = c.args.search.now.budget.now in
    let case = case_view c.in-Some.case.now in
    let guards = (case_view c.args.kept.now).guards in
    let from = subst (λ l. AreFrom about (at_location l) 1 guards) (sym c.if-case-kept.false) c.requires.from in
    empty_refused about b (over_case case) c.deref.result.now (c.variables.result + case.draws) c.in-Err-empty.fault (ap (λ k. k + case.draws) c.variables.ensures.same)
    (subst (AreFrom about (over_case case) 2) (sym c.deref.ensures.value) (entering_from about b case guards c.in-Ok.rows.items (contains_at about.cases c.args.number case c.in-Some.ensures) c.requires.even from c.in-Ok.ensures.entering))
    c.in-Err-empty.ensures.refusals

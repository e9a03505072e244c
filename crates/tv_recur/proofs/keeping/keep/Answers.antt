use Rattle.std.proofs.Common.{◌∙◌, ◌++◌, [], refl}
use Rattle.tv_cases.specs.Systems.{cases_of}
use Rattle.tv_cases.specs.Views.{case_view}
use Rattle.tv_recur.proofs.KeepLemmas.{keep_gives}
use Rattle.std.proofs.Common.{sym, subst}
use Rattle.tv_derived.specs.Scopes.{at_location}
use Rattle.tv_recur.specs.Refusing.{AreFrom}
use Rattle.tv_recur.proofs.RefusalLemmas.{undrawn_from}
use Rattle.tv_recur.proofs.keeping.keep.Goals as goal
use Rattle.tv_linear.proofs.ListLaws.{contains_at}

pub returns-clause-found : goal.returns-clause-found
returns-clause-found c =
    keep_gives (cases_of c.args.search.now.about.now) (case_view c.args.case.now) c.variables.result [] c.push_copies.new.list.items c.deref-2.result.now c.in-Ok.found
    c.variables.ensures.same refl
    (c.in_ok-push_copies.ensures.copied ∙ (λ i. c.new-rows.ensures.items i ++ c.deref.ensures.value i))
    c.deref-2.ensures.value c.if-case.false c.if-case-ne0.false c.in-Ok.ensures.found

pub leading-requires-clause-derived : goal.leading-requires-clause-derived
leading-requires-clause-derived c =
    let about = cases_of c.args.search.now.about.now in
    let case = case_view c.args.case.now in
    subst (AreFrom about (at_location case.from) 2) (sym (c.in_ok-push_copies.ensures.copied ∙ (λ i. c.new-rows.ensures.items i ++ c.deref.ensures.value i)))
    (undrawn_from about c.args.search.now.budget.now case 2 (contains_at about.cases c.args.number case c.requires.found) c.if-case-ne0.false)

pub leading-requires-clause-entered : goal.leading-requires-clause-entered
leading-requires-clause-entered c =
    let about = cases_of c.args.search.now.about.now in
    let case = case_view c.args.case.now in
    subst (AreFrom about (at_location case.to) 1) (sym c.deref-2.ensures.value)
    (subst (λ l. AreFrom about (at_location l) 1 case.guards) c.if-case.false (undrawn_from about c.args.search.now.budget.now case 1 (contains_at about.cases c.args.number case c.requires.found) c.if-case-ne0.false))

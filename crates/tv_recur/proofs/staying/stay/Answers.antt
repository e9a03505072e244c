use Rattle.std.proofs.Common.{◌≡◌, ◌∙◌, ◌+◌, ◌++◌, All, slice_get, arith, ap, sym, subst}
use Rattle.tv_linear.specs.Linear.{columns, IsNarrow}
use Rattle.tv_cases.specs.Systems.{cases_of}
use Rattle.tv_cases.specs.Views.{case_view}
use Rattle.tv_farkas.specs.Paths.{IsWholePoint}
use Rattle.tv_recur.specs.Staying.{unchanged_rows, staying_rows, NeverStays}
use Rattle.tv_derived.specs.Scopes.{over_case}
use Rattle.tv_recur.specs.Refusing.{AreFrom}
use Rattle.tv_recur.proofs.RefusalLemmas.{updates_refused, staying_from, empty_refused, more_from}
use Rattle.tv_recur.proofs.ReadLemmas.{case_is, same_read}
use Rattle.tv_recur.proofs.StayLemmas.{never_stays, staying_wide}
use Rattle.tv_recur.proofs.staying.stay.Goals as goal
use Rattle.tv_linear.proofs.ListLaws.{contains_at}

pub empty-requires-clause-even : goal.empty-requires-clause-even
empty-requires-clause-even c =
    let about = cases_of c.args.search.now.about.now in
    let case = case_view c.in-Some.case.now in
    let good = case_is about c.args.number case c.args.search.now.about.now.are_cases c.in-Some.ensures in
    let made : c.deref-4.result.now ≡ staying_rows about.variables case =
    c.deref-4.ensures.value ∙ c.in-Ok.ensures.pushed
    ∙ (λ i. (c.in_ok-push_copies.ensures.copied ∙ (λ j. c.new-rows.ensures.items j ++ c.deref.ensures.value j)) i ++ unchanged_rows (c.variables.ensures.same i + case.draws) (c.deref-2.ensures.value i)) in
    subst (λ k. All (λ r. columns r ≡ k + case.draws) c.deref-4.result.now) (sym c.variables.ensures.same) (staying_wide about.variables case c.deref-4.result.now made good.guards good.terms)

pub returns-in-Ok-Tree-clause-found : goal.returns-in-Ok-Tree-clause-found
returns-in-Ok-Tree-clause-found c =
    let about = cases_of c.args.search.now.about.now in
    let case = case_view c.in-Some.case.now in
    let good = case_is about c.args.number case c.args.search.now.about.now.are_cases c.in-Some.ensures in
    let made : c.deref-4.result.now ≡ staying_rows about.variables case =
    c.deref-4.ensures.value ∙ c.in-Ok.ensures.pushed
    ∙ (λ i. (c.in_ok-push_copies.ensures.copied ∙ (λ j. c.new-rows.ensures.items j ++ c.deref.ensures.value j)) i ++ unchanged_rows (c.variables.ensures.same i + case.draws) (c.deref-2.ensures.value i)) in
    let none = rw c.in-Ok-Tree.field-0-is at c.in-Ok-Tree.ensures.none in
    let never = never_stays about case c.deref-4.result.now good made (λ xs p. none xs (subst (λ k. IsWholePoint (k + case.draws) c.deref-4.result.now xs) (sym c.variables.ensures.same) p)) in
    λ other e. subst (NeverStays about) (same_read (slice_get about.cases c.args.number) case other c.in-Some.ensures e) never

pub returns-in-Err-clause-refusals : goal.returns-in-Err-clause-refusals
returns-in-Err-clause-refusals c =
    let about = cases_of c.args.search.now.about.now in
    let b = c.args.search.now.budget.now in
    let case = case_view c.in-Some.case.now in
    updates_refused about b case (contains_at about.cases c.args.number case c.in-Some.ensures) (c.if-case-start.false ∙ c.start.ensures.same) (c.if-case-start-2.false ∙ c.start-else-case-start.ensures.same)
    (c.variables.result + case.draws) c.deref-2.result.now c.in-Err.fault (ap (λ k. k + case.draws) c.variables.ensures.same) c.deref-2.ensures.value c.in-Err.ensures.refusals

pub empty-requires-clause-bounded : goal.empty-requires-clause-bounded
empty-requires-clause-bounded c =
    let about = cases_of c.args.search.now.about.now in
    let d = (case_is about c.args.number (case_view c.in-Some.case.now) c.args.search.now.about.now.are_cases c.in-Some.ensures).few_draws in
    let n = c.args.search.now.about.now.are_cases.few_variables in
    let v = c.variables.ensures.same in
    omega (arith, d, n, v)

pub returns-in-Err-empty-clause-refusals : goal.returns-in-Err-empty-clause-refusals
returns-in-Err-empty-clause-refusals c =
    let about = cases_of c.args.search.now.about.now in
    let b = c.args.search.now.budget.now in
    let case = case_view c.in-Some.case.now in
    let made : c.deref-4.result.now ≡ staying_rows about.variables case =
    c.deref-4.ensures.value ∙ c.in-Ok.ensures.pushed
    ∙ (λ i. (c.in_ok-push_copies.ensures.copied ∙ (λ j. c.new-rows.ensures.items j ++ c.deref.ensures.value j)) i ++ unchanged_rows (c.variables.ensures.same i + case.draws) (c.deref-2.ensures.value i)) in
    let among = contains_at about.cases c.args.number case c.in-Some.ensures in
    let narrow = subst (All IsNarrow) (c.deref-3.ensures.value ∙ sym c.deref-4.ensures.value) c.narrow_rows.ensures in
    let from = staying_from about c.args.search.now.budget.now case among (c.if-case-start.false ∙ c.start.ensures.same) (c.if-case-start-2.false ∙ c.start-else-case-start.ensures.same) c.deref-4.result.now made narrow in
    empty_refused about b (over_case case) c.deref-4.result.now (c.variables.result + case.draws) c.in-Err-empty.fault (ap (λ k. k + case.draws) c.variables.ensures.same) (more_from about b (over_case case) c.deref-4.result.now from) c.in-Err-empty.ensures.refusals

pub staying_at-requires-clause-from : goal.staying_at-requires-clause-from
staying_at-requires-clause-from c =
    let about = cases_of c.args.search.now.about.now in
    let b = c.args.search.now.budget.now in
    let case = case_view c.in-Some.case.now in
    let made : c.deref-4.result.now ≡ staying_rows about.variables case =
    c.deref-4.ensures.value ∙ c.in-Ok.ensures.pushed
    ∙ (λ i. (c.in_ok-push_copies.ensures.copied ∙ (λ j. c.new-rows.ensures.items j ++ c.deref.ensures.value j)) i ++ unchanged_rows (c.variables.ensures.same i + case.draws) (c.deref-2.ensures.value i)) in
    let among = contains_at about.cases c.args.number case c.in-Some.ensures in
    let narrow = subst (All IsNarrow) (c.deref-3.ensures.value ∙ sym c.deref-4.ensures.value) c.narrow_rows.ensures in
    let from = staying_from about c.args.search.now.budget.now case among (c.if-case-start.false ∙ c.start.ensures.same) (c.if-case-start-2.false ∙ c.start-else-case-start.ensures.same) c.deref-4.result.now made narrow in
    subst (AreFrom about (over_case case) 1) (c.deref-4.ensures.value ∙ sym c.deref-in-Ok-Whole.ensures.value) from

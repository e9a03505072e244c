use Rattle.std.proofs.Common.{◌≡◌, ◌+◌, ◌∙◌, All, arith, sym, subst, ap}
use Rattle.tv_linear.specs.Linear.{columns}
use Rattle.tv_cases.specs.Systems.{cases_of}
use Rattle.tv_cases.specs.Views.{case_view}
use Rattle.tv_cases.specs.Before.{rows_before}
use Rattle.tv_cases.proofs.BeforeLemmas.{all_before_even}
use Rattle.tv_recur.specs.Making.{drawn_terms}
use Rattle.tv_recur.proofs.OwedLemmas.{terms_each, terms_even}
use Rattle.tv_recur.proofs.ReadLemmas.{taking_case}
use Rattle.tv_derived.specs.Scopes.{over_case}
use Rattle.tv_recur.specs.Refusing.{AreFrom}
use Rattle.tv_recur.proofs.RefusalLemmas.{guards_from, put_refused, before_refused, before_from}
use Rattle.tv_recur.proofs.owed_rows.owed_rows.Goals as goal
use Rattle.tv_linear.proofs.ListLaws.{contains_at}

pub rows_put-requires-clause-each : goal.rows_put-requires-clause-each
rows_put-requires-clause-each c =
    let t = c.args.taking.now in
    terms_each (cases_of t.about.now).variables c.variables-variables.result t.case.now.draws t.draws.now c.deref-2.result.now c.deref.result.now t.case.now.guards.rows.items
    c.variables-variables.ensures.same (c.deref-2.ensures.value ∙ c.in_ok-terms.ensures) c.requires.taking.counted c.deref.ensures.value (taking_case t c.requires.taking).guards

pub rows_put-requires-clause-even : goal.rows_put-requires-clause-even
rows_put-requires-clause-even c =
    terms_even c.variables-variables.result c.args.taking.now.draws.now c.deref-2.result.now (c.deref-2.ensures.value ∙ c.in_ok-terms.ensures)

pub rows_before-requires-clause-bounded : goal.rows_before-requires-clause-bounded
rows_before-requires-clause-bounded c =
    let d = (taking_case c.args.taking.now c.requires.taking).few_draws in
    let n = c.variables-variables.ensures.limits.few_variables in
    let v = c.variables-variables.ensures.same in
    omega (arith, d, n, v)

pub rows_before-requires-clause-terms : goal.rows_before-requires-clause-terms
rows_before-requires-clause-terms c =
    let t = c.args.taking.now in
    subst (λ k. All (λ u. columns u.term ≡ k + t.case.now.draws) t.case.now.updates.items) (sym c.variables-variables.ensures.same) (taking_case t c.requires.taking).terms

pub rows_put-requires-2-clause-each : goal.rows_put-requires-2-clause-each
rows_put-requires-2-clause-each c =
    let t = c.args.taking.now in
    let n = (cases_of t.about.now).variables in
    let case = case_view t.case.now in
    let made = c.in-Ok-rows_before.ensures.rows in
    terms_each n c.variables-variables.result t.case.now.draws t.draws.now c.deref-4.result.now c.deref-3.result.now (rows_before case c.args.into.now)
    c.variables-variables.ensures.same (c.deref-4.ensures.value ∙ c.in_ok-terms.ensures) c.requires.taking.counted (c.deref-3.ensures.value ∙ made.exact)
    (all_before_even n case c.args.into.now c.requires.even (taking_case t c.requires.taking).terms made.fits)

pub rows_put-requires-2-clause-even : goal.rows_put-requires-2-clause-even
rows_put-requires-2-clause-even c =
    terms_even c.variables-variables.result c.args.taking.now.draws.now c.deref-4.result.now (c.deref-4.ensures.value ∙ c.in_ok-terms.ensures)

pub returns-in-Err-clause-refusals : goal.returns-in-Err-clause-refusals
returns-in-Err-clause-refusals c =
    let t = c.args.taking.now in
    let about = cases_of t.about.now in
    let case = case_view t.case.now in
    let among = contains_at about.cases t.number case c.requires.taking.found in
    put_refused about t.budget.now case t.draws.now c.requires.taking.counted c.requires.taking.may c.deref.result.now c.deref-2.result.now c.in-Err.fault
    (c.deref-2.ensures.value ∙ c.in_ok-terms.ensures ∙ ap (λ k. drawn_terms k t.draws.now) c.variables-variables.ensures.same)
    (subst (AreFrom about (over_case case) 2) (sym c.deref.ensures.value) (guards_from about t.budget.now case 2 among)) c.in-Err.ensures.refusals

pub returns-in-Err-rows_before-clause-refusals : goal.returns-in-Err-rows_before-clause-refusals
returns-in-Err-rows_before-clause-refusals c =
    let t = c.args.taking.now in
    let about = cases_of t.about.now in
    let case = case_view t.case.now in
    before_refused about t.budget.now case c.args.into.now c.in-Err-rows_before.fault (contains_at about.cases t.number case c.requires.taking.found) c.requires.even c.requires.entered c.in-Err-rows_before.ensures.refusals

pub returns-in-Err-rows_put-clause-refusals : goal.returns-in-Err-rows_put-clause-refusals
returns-in-Err-rows_put-clause-refusals c =
    let t = c.args.taking.now in
    let about = cases_of t.about.now in
    let case = case_view t.case.now in
    let among = contains_at about.cases t.number case c.requires.taking.found in
    let made = c.in-Ok-rows_before.ensures.rows in
    put_refused about t.budget.now case t.draws.now c.requires.taking.counted c.requires.taking.may c.deref-3.result.now c.deref-4.result.now c.in-Err-rows_put.fault
    (c.deref-4.ensures.value ∙ c.in_ok-terms.ensures ∙ ap (λ k. drawn_terms k t.draws.now) c.variables-variables.ensures.same)
    (subst (AreFrom about (over_case case) 2) (sym (c.deref-3.ensures.value ∙ made.exact)) (before_from about t.budget.now case among c.args.into.now c.requires.even c.requires.entered made.fits)) c.in-Err-rows_put.ensures.refusals

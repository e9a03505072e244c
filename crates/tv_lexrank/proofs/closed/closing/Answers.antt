use Rattle.std.proofs.Common.{◌≡◌, ◌∙◌, ◌+◌, ◌<◌, ◌++◌, map, length, All, ap, sym, subst, arith}
use Rattle.tv_cover.specs.Single.{IsCoverInto}
use Rattle.tv_linear.specs.Linear.{columns}
use Rattle.tv_linear.specs.Arithmetic.{padded_row}
use Rattle.tv_cases.specs.Systems.{cases_of}
use Rattle.tv_cases.specs.Before.{AreRowsBefore}
use Rattle.tv_cases.proofs.BeforeLemmas.{all_before_even}
use Rattle.tv_rank.specs.Ways.{rows_at, case_at, way_of}
use Rattle.tv_lexrank.specs.Closing.{RefusesCover}
use Rattle.tv_lexrank.proofs.ClosingLemmas.{leads_into, uncovered_closed}
use Rattle.tv_lexrank.proofs.MetLemmas.{not_empty, have_room, over_at, rows_even}
use Rattle.tv_lexrank.proofs.SortLemmas.{of_case}
use Rattle.tv_lexrank.proofs.closed.closing.Goals as goal

pub rows_before-requires-clause-even : goal.rows_before-requires-clause-even
rows_before-requires-clause-even c =
    let about = cases_of c.args.about.now in
    let known = c.args.known.now.pieces.items in
    let k = c.args.number in
    let case = c.case_of-case.ensures.is in
    let owed = c.known_at-owed.ensures ∙ (λ i. rows_at (c.deref.ensures.value i) (case i).to) in
    subst (λ n. All (λ r. columns r ≡ n) c.known_at-owed.result.now) (sym c.variables-2.ensures.same)
    (subst (All (λ r. columns r ≡ about.variables)) (sym owed) (over_at about.variables known (case_at about.cases k).to c.requires.known.over))

pub rows_with-requires : goal.rows_with-requires
rows_with-requires c =
    let about = cases_of c.args.about.now in
    let known = c.args.known.now.pieces.items in
    let k = c.args.number in
    let case = c.case_of-case.ensures.is in
    let started = c.known_at-started.ensures ∙ (λ i. rows_at (c.deref-2.ensures.value i) (case i).from) in
    let all = over_at about.variables known (case_at about.cases k).from c.requires.known.over in
    let draws = c.case_of-case.ensures.limits.few_draws in
    let variables = c.case_of-case.ensures.bounded in
    record {
      bounded = have_room about.variables c.case_of-case.result.now.draws c.known_at-started.result.now (omega (arith, draws, variables))
          (subst (All (λ r. columns r ≡ about.variables)) (sym started) all);
    }

pub cover_into-requires-clause-even : goal.cover_into-requires-clause-even
cover_into-requires-clause-even c =
    let about = cases_of c.args.about.now in
    let known = c.args.known.now.pieces.items in
    let k = c.args.number in
    let case = c.case_of-case.ensures.is in
    let started = c.known_at-started.ensures ∙ (λ i. rows_at (c.deref-2.ensures.value i) (case i).from) in
    let wide : c.variables.result + c.case_of-case.result.now.draws ≡ about.variables + (case_at about.cases k).draws = (λ i. c.variables.ensures.same i + (case i).draws) in
    let guards = c.deref-3.ensures.value ∙ ap (λ z. z.guards) case in
    let met = c.in_ok-rows.ensures ∙ (λ i. map (padded_row (case i).draws) (started i) ++ guards i) in
    subst (λ n. All (λ r. columns r ≡ n) c.in_ok-rows.rows.items) (sym wide)
    (subst (All (λ r. columns r ≡ about.variables + (case_at about.cases k).draws)) (sym met)
    (rows_even about.variables (way_of about.cases known k) (over_at about.variables known (case_at about.cases k).from c.requires.known.over) (of_case about k c.args.about.now.are_cases c.requires.number).guards))

pub cover_into-requires-clause-same : goal.cover_into-requires-clause-same
cover_into-requires-clause-same c =
    let about = cases_of c.args.about.now in
    let known = c.args.known.now.pieces.items in
    let k = c.args.number in
    let case = c.case_of-case.ensures.is in
    let owed = c.known_at-owed.ensures ∙ (λ i. rows_at (c.deref.ensures.value i) (case i).to) in
    let wide : c.variables.result + c.case_of-case.result.now.draws ≡ about.variables + (case_at about.cases k).draws = (λ i. c.variables.ensures.same i + (case i).draws) in
    let made = subst (λ z. AreRowsBefore (case_at about.cases k) z c.in-Ok.target.items) owed (subst (λ z. AreRowsBefore z c.known_at-owed.result.now c.in-Ok.target.items) case c.in-Ok.ensures.rows) in
    let proper = of_case about k c.args.about.now.are_cases c.requires.number in
    let into = over_at about.variables known (case_at about.cases k).to c.requires.known.over in
    subst (λ n. All (λ r. columns r ≡ n) c.in-Ok.target.items) (sym wide)
    (subst (All (λ r. columns r ≡ about.variables + (case_at about.cases k).draws)) (sym made.exact) (all_before_even about.variables (case_at about.cases k) (rows_at known (case_at about.cases k).to) into proper.terms made.fits))

pub returns-in-Ok-cover_into-clause-closed : goal.returns-in-Ok-cover_into-clause-closed
returns-in-Ok-cover_into-clause-closed c =
    let about = cases_of c.args.about.now in
    let known = c.args.known.now.pieces.items in
    let k = c.args.number in
    let case = c.case_of-case.ensures.is in
    let owed = c.known_at-owed.ensures ∙ (λ i. rows_at (c.deref.ensures.value i) (case i).to) in
    let started = c.known_at-started.ensures ∙ (λ i. rows_at (c.deref-2.ensures.value i) (case i).from) in
    let wide : c.variables.result + c.case_of-case.result.now.draws ≡ about.variables + (case_at about.cases k).draws = (λ i. c.variables.ensures.same i + (case i).draws) in
    let guards = c.deref-3.ensures.value ∙ ap (λ z. z.guards) case in
    let met = c.in_ok-rows.ensures ∙ (λ i. map (padded_row (case i).draws) (started i) ++ guards i) in
    let made = subst (λ z. AreRowsBefore (case_at about.cases k) z c.in-Ok.target.items) owed (subst (λ z. AreRowsBefore z c.known_at-owed.result.now c.in-Ok.target.items) case c.in-Ok.ensures.rows) in
    let proper = of_case about k c.args.about.now.are_cases c.requires.number in
    let into = over_at about.variables known (case_at about.cases k).to c.requires.known.over in
    leads_into about.variables (way_of about.cases known k) (rows_at known (case_at about.cases k).to) c.in_ok-rows.rows.items c.in-Ok.target.items c.in-Ok-cover_into.cover met made into proper.terms
    (subst (λ n. IsCoverInto n c.in_ok-rows.rows.items c.in-Ok.target.items c.in-Ok-cover_into.cover) wide c.in-Ok-cover_into.ensures.covered)

pub returns-clause-refusals : goal.returns-clause-refusals
returns-clause-refusals c =
    let about = cases_of c.args.about.now in
    let known = c.args.known.now.pieces.items in
    let k = c.args.number in
    let case = c.case_of-case.ensures.is in
    let owed = c.known_at-owed.ensures ∙ (λ i. rows_at (c.deref.ensures.value i) (case i).to) in
    let started = c.known_at-started.ensures ∙ (λ i. rows_at (c.deref-2.ensures.value i) (case i).from) in
    let wide : c.variables.result + c.case_of-case.result.now.draws ≡ about.variables + (case_at about.cases k).draws = (λ i. c.variables.ensures.same i + (case i).draws) in
    let guards = c.deref-3.ensures.value ∙ ap (λ z. z.guards) case in
    let met = c.in_ok-rows.ensures ∙ (λ i. map (padded_row (case i).draws) (started i) ++ guards i) in
    let made = subst (λ z. AreRowsBefore (case_at about.cases k) z c.in-Ok.target.items) owed (subst (λ z. AreRowsBefore z c.known_at-owed.result.now c.in-Ok.target.items) case c.in-Ok.ensures.rows) in
    let proper = of_case about k c.args.about.now.are_cases c.requires.number in
    let some = subst (λ z. 0 < length z) owed (not_empty c.known_at-owed.result.now c.is_empty.result c.is_empty.ensures c.if-is_empty.false) in
    uncovered_closed about known k c.in_ok-rows.rows.items c.in-Ok.target.items c.requires.number c.requires.known proper c.args.budget.now c.in-Err-cover_into.fault some met made
    (subst (λ n. RefusesCover n c.in_ok-rows.rows.items c.in-Ok.target.items c.args.budget.now k c.in-Err-cover_into.fault) wide c.in-Err-cover_into.ensures.refusals)

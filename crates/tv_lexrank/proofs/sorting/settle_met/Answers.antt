use Rattle.std.proofs.Common.{◌≡◌, ◌∙◌, ◌+◌, ◌++◌, map, All, ap, sym, subst, arith}
use Rattle.tv_linear.specs.Linear.{columns}
use Rattle.tv_linear.specs.Arithmetic.{padded_row}
use Rattle.tv_cases.specs.Systems.{cases_of}
use Rattle.tv_rank.specs.Ways.{rows_at, case_at, way_of}
use Rattle.tv_lexrank.proofs.MetLemmas.{have_room, over_at, rows_even}
use Rattle.tv_lexrank.proofs.SettleLemmas.{taken_met}
use Rattle.tv_lexrank.proofs.SortLemmas.{of_case}
use Rattle.tv_lexrank.proofs.sorting.settle_met.Goals as goal

pub rows_with-requires : goal.rows_with-requires
rows_with-requires c =
    let q = c.args.component.now in
    let about = cases_of q.about.now in
    let known = q.known.now.pieces.items in
    let k = c.args.number in
    let case = c.case_of-case.ensures.is in
    let rows = c.known_at-known.ensures ∙ (λ i. rows_at (c.deref.ensures.value i) (case i).from) in
    let all = over_at about.variables known (case_at about.cases k).from q.known_rows.over in
    let draws = c.case_of-case.ensures.limits.few_draws in
    let variables = c.case_of-case.ensures.bounded in
    record {
      bounded = have_room about.variables c.case_of-case.result.now.draws c.known_at-known.result.now (omega (arith, draws, variables))
          (subst (All (λ r. columns r ≡ about.variables)) (sym rows) all);
    }

pub settle_rows-requires-clause-even : goal.settle_rows-requires-clause-even
settle_rows-requires-clause-even c =
    let q = c.args.component.now in
    let about = cases_of q.about.now in
    let known = q.known.now.pieces.items in
    let k = c.args.number in
    let case = c.case_of-case.ensures.is in
    let rows = c.known_at-known.ensures ∙ (λ i. rows_at (c.deref.ensures.value i) (case i).from) in
    let wide : c.variables.result + c.case_of-case.result.now.draws ≡ about.variables + (case_at about.cases k).draws = (λ i. c.variables.ensures.same i + (case i).draws) in
    let guards = c.deref-2.ensures.value ∙ ap (λ z. z.guards) case in
    let met = c.in_ok-rows.ensures ∙ (λ i. map (padded_row (case i).draws) (rows i) ++ guards i) in
    subst (λ n. All (λ r. columns r ≡ n) c.deref-3.result.now) (sym wide)
    (subst (All (λ r. columns r ≡ about.variables + (case_at about.cases k).draws)) (sym (c.deref-3.ensures.value ∙ met))
    (rows_even about.variables (way_of about.cases known k) (over_at about.variables known (case_at about.cases k).from q.known_rows.over) (of_case about k q.about.now.are_cases c.requires.number).guards))

pub returns-in-Ok-clause-settled : goal.returns-in-Ok-clause-settled
returns-in-Ok-clause-settled c =
    let q = c.args.component.now in
    let about = cases_of q.about.now in
    let known = q.known.now.pieces.items in
    let k = c.args.number in
    let case = c.case_of-case.ensures.is in
    let rows = c.known_at-known.ensures ∙ (λ i. rows_at (c.deref.ensures.value i) (case i).from) in
    let wide : c.variables.result + c.case_of-case.result.now.draws ≡ about.variables + (case_at about.cases k).draws = (λ i. c.variables.ensures.same i + (case i).draws) in
    let guards = c.deref-2.ensures.value ∙ ap (λ z. z.guards) case in
    let met = c.in_ok-rows.ensures ∙ (λ i. map (padded_row (case i).draws) (rows i) ++ guards i) in
    taken_met about.variables (c.variables.result + c.case_of-case.result.now.draws) (way_of about.cases known k) c.deref-3.result.now c.in-Ok.settled wide (c.deref-3.ensures.value ∙ met) c.in-Ok.ensures.settled

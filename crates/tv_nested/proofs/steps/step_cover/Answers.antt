use Rattle.std.proofs.Common.{◌∙◌, length, ap, subst}
use Rattle.tv_cases.specs.Systems.{cases_of}
use Rattle.tv_cases.specs.Views.{case_view}
use Rattle.tv_rank.specs.Ways.{case_at}
use Rattle.tv_nested.specs.Ranks.{signs_at}
use Rattle.tv_nested.specs.Signs.{sign_rows}
use Rattle.tv_nested.specs.Steps.{RefusesSignStep}
use Rattle.tv_nested.proofs.OfferedLemmas.{step_shown}
use Rattle.tv_nested.proofs.RefusalLemmas.{step_refused}
use Rattle.tv_nested.proofs.steps.step_cover.Goals as goal

pub returns-in-Ok-clause-shows : goal.returns-in-Ok-clause-shows
returns-in-Ok-clause-shows c =
    let case = c.case_of-case.ensures.is in
    let signs = c.deref.ensures.value ∙ c.in_ok-signs.ensures.is ∙ ap (λ z. signs_at c.args.ranking.now z.to) case in
    let rows = c.row_count-before.ensures.is ∙ ap (λ z. length (sign_rows (signs_at c.args.ranking.now z.from) c.args.piece)) case in
    step_shown c.args.ranking.now c.args.number c.args.piece c.variables-variables.result c.row_count-before.result (case_view c.case_of-case.result.now) c.deref.result.now c.args.shown.now c.in-Ok.tree
    c.variables-variables.ensures.same case signs rows c.in-Ok.ensures.shows c.requires.shown

pub returns-clause-refusals : goal.returns-clause-refusals
returns-clause-refusals c =
    let case = c.case_of-case.ensures.is in
    let signs = c.deref.ensures.value ∙ c.in_ok-signs.ensures.is ∙ ap (λ z. signs_at c.args.ranking.now z.to) case in
    step_refused c.args.ranking.now c.requires.ranked c.args.number c.requires.number c.in-Err.fault
    (subst (λ z. RefusesSignStep z (signs_at c.args.ranking.now (case_at (cases_of c.args.ranking.now.about.now).cases c.args.number).to) c.in-Err.fault) case
    (subst (λ z. RefusesSignStep (case_view c.case_of-case.result.now) z c.in-Err.fault) signs c.in-Err.ensures.refusals))

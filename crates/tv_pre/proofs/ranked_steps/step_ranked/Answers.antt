use Rattle.std.proofs.Common.{length, ap, subst}
use Rattle.tv_cases.specs.Systems.{cases_of}
use Rattle.tv_cases.specs.Views.{case_view}
use Rattle.tv_choice.specs.Leading.{piece_rows}
use Rattle.tv_lexrank.specs.More.{way_with}
use Rattle.tv_lexrank.specs.Shown.{IsShownBy, ranks_there}
use Rattle.tv_pre.proofs.RankedStepLemmas.{more_shown, shows_refuted}
use Rattle.tv_pre.proofs.ranked_steps.step_ranked.Goals as goal

pub returns-in-Untaken-clause-shows : goal.returns-in-Untaken-clause-shows
returns-in-Untaken-clause-shows c ranked h =
    let about = cases_of c.args.setting.now.about.now in
    let q = c.args.piece.now in
    let case = case_view c.args.case.now in
    let under = more_shown about ranked q case (length c.deref-rows.result.now) c.args.shown.now c.in_ok-multipliers.field-0 (ap length c.deref-rows.ensures.value) c.in_ok-multipliers.ensures h in
    shows_refuted about ranked q case c.args.done.now c.args.into.now c.in-Untaken.multipliers.items c.refuted.result c.refuted.ensures
    (subst (IsShownBy about.variables (way_with case (piece_rows q)) (ranks_there ranked case.from) (ranks_there ranked case.to)) c.in-Untaken.is under)

pub step_lowered-requires-clause-lines : goal.step_lowered-requires-clause-lines
step_lowered-requires-clause-lines c =
    let about = cases_of c.args.setting.now.about.now in
    let q = c.args.piece.now in
    let case = case_view c.args.case.now in
    let ranked = c.requires.shown.0 in
    let under = more_shown about ranked q case (length c.deref-rows.result.now) c.args.shown.now c.in_ok-multipliers.field-0 (ap length c.deref-rows.ensures.value) c.in_ok-multipliers.ensures c.requires.shown.1 in
    let falls = subst (IsShownBy about.variables (way_with case (piece_rows q)) (ranks_there ranked case.from) (ranks_there ranked case.to)) c.in-Falls.is under in
    falls.narrow

pub returns-clause-shows : goal.returns-clause-shows
returns-clause-shows c ranked h =
    let about = cases_of c.args.setting.now.about.now in
    let q = c.args.piece.now in
    let case = case_view c.args.case.now in
    let under = more_shown about ranked q case (length c.deref-rows.result.now) c.args.shown.now c.in_ok-multipliers.field-0 (ap length c.deref-rows.ensures.value) c.in_ok-multipliers.ensures h in
    c.in-Ok.ensures.shows ranked (subst (IsShownBy about.variables (way_with case (piece_rows q)) (ranks_there ranked case.from) (ranks_there ranked case.to)) c.in-Falls.is under)

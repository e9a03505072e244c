use Rattle.std.proofs.Common.{◌∙◌, subst}
use Rattle.tv_farkas.specs.Judging.{IsJudged}
use Rattle.tv_choice.specs.Asked.{query_of}
use Rattle.tv_choice.specs.Looking.{no_wide}
use Rattle.tv_choice.proofs.LookLemmas.{judge_tried, row_tried, excluded_one, entered_one}
use Rattle.tv_choice.proofs.looking.is_excluded.Goals as goal

pub returns-in-Err-clause-refusals : goal.returns-in-Err-clause-refusals
returns-in-Err-clause-refusals c =
    let q = c.args.question.now in
    judge_tried no_wide q.columns (query_of q) c.args.place.now.rows.now c.deref.result.now c.args.row.now q.pivots c.in-Err.fault (c.deref.ensures.value ∙ c.in_ok-all.ensures)
    (row_tried q.columns (query_of q) c.args.place.now.rows.now c.args.row.now c.requires.way) c.in-Err.ensures.refusals

pub returns-in-Ok-Refuted-clause-excluded : goal.returns-in-Ok-Refuted-clause-excluded
returns-in-Ok-Refuted-clause-excluded c =
    let n = c.args.question.now.columns in
    let h = subst (IsJudged n c.deref.result.now) c.in-Ok-Refuted.field-0-is c.in-Ok-Refuted.ensures.answers in
    excluded_one n c.args.place.now.rows.now c.deref.result.now c.args.row.now c.in-Ok-Refuted.field-0-0.items (c.deref.ensures.value ∙ c.in_ok-all.ensures) h.refutes

pub returns : goal.returns
returns c =
    let n = c.args.question.now.columns in
    let h = subst (IsJudged n c.deref.result.now) c.in-Ok-Point.field-0-is c.in-Ok-Point.ensures.answers in
    record { excluded = entered_one n c.args.place.now.rows.now c.deref.result.now c.args.row.now c.in-Ok-Point.field-0-0.items c.in-Ok-Point.field-0-1 (c.deref.ensures.value ∙ c.in_ok-all.ensures) h; refusals = tt }

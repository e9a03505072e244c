use Rattle.std.proofs.Common.{sym, ap, ◌∙◌, Ok}
use Rattle.tv_program.specs.Trees.{Condition}
use Rattle.tv_reading.specs.ConditionGrammar.{tested}
use Rattle.std.proofs.lemmas.Result.{err_from_is_err_and}
use Rattle.tv_reading.specs.Marks.{left}
use Rattle.tv_reading.specs.Views.{stand, kind_at, made_view}
use Rattle.tv_reading.proofs.ConditionSteps.{related_on, related_failed, related_off}
use Rattle.tv_reading.proofs.conditions.related.Goals as goal

pub returns-in_err-other-in-Some-clause-reads : goal.returns-in_err-other-in-Some-clause-reads
returns-in_err-other-in-Some-clause-reads c =
    let p = err_from_is_err_and c.from_residual-in_err-other-in-Some.result c.from_residual-in_err-other-in-Some.ensures.1 in
    rw (p.1, p.2) (related_failed c.args.levels (made_view c.args.made) (left (stand c.args.source.now c.args.cursor.now)) (left (stand c.args.source.now c.pass.new.cursor)) c.kind_of.result c.in-Some.relation (c.kind_of.ensures ∙ ap kind_at c.peek.ensures) (sym c.in-Some.ensures) c.in_ok-pass-in-Some.ensures.rest c.in_err-other-in-Some.field-0.0 (left (stand c.args.source.now c.sum.new.cursor)) c.in_err-other-in-Some.ensures.reads)

pub returns-in_ok-other-in-Some-clause-reads : goal.returns-in_ok-other-in-Some-clause-reads
returns-in_ok-other-in-Some-clause-reads c =
    related_on c.args.levels (made_view c.args.made) (left (stand c.args.source.now c.args.cursor.now)) (left (stand c.args.source.now c.pass.new.cursor)) c.kind_of.result c.in-Some.relation (c.kind_of.ensures ∙ ap kind_at c.peek.ensures) (sym c.in-Some.ensures) c.in_ok-pass-in-Some.ensures.rest (made_view c.in_ok-other-in-Some.other) (left (stand c.args.source.now c.sum.new.cursor)) c.in_ok-other-in-Some.ensures.reads
    ∙ ap (λ (x : Condition). Ok (tested x, left (stand c.args.source.now c.sum.new.cursor))) (sym c.comparison.ensures)

pub returns-in-None-clause-reads : goal.returns-in-None-clause-reads
returns-in-None-clause-reads c = related_off c.args.levels (made_view c.args.made) (left (stand c.args.source.now c.args.cursor.now)) c.kind_of.result (c.kind_of.ensures ∙ ap kind_at c.peek.ensures) (sym c.in-None.ensures)

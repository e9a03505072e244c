use Rattle.std.proofs.Common.{◌-◌, ◌+◌, arith, ap, ◌∙◌}
use Rattle.std.proofs.lemmas.Result.{err_from_is_err_and}
use Rattle.tv_program.specs.Views.{condition}
use Rattle.tv_reading.specs.Marks.{left}
use Rattle.tv_reading.specs.SumGrammar.{every}
use Rattle.tv_reading.specs.ConditionGrammar.{is_and, is_or, more_cases, conjunction_over, literal_at}
use Rattle.tv_reading.specs.Views.{stand, kind_at, piece_view, conds_view}
use Rattle.tv_reading.proofs.ConditionLemmas.{more_branch, literal_exact, conjunction_exact_over}
use Rattle.tv_reading.proofs.AnswerLemmas.{gives_along, turn_failed, turn_on, turn_less, turn_off}
use Rattle.tv_reading.proofs.ConditionSteps.{thing_deep_left, thing_deep_not, thing_left, thing_not, thing_true, thing_false, thing_other, plain_deep_left, plain_deep_not, plain_left, plain_not, plain_true, plain_false, plain_other}
use Rattle.tv_reading.proofs.conditions.+conditions.Goals as goal

pub ands-returns-in_err-more-clause-reads : goal.ands-returns-in_err-more-clause-reads
ands-returns-in_err-more-clause-reads t c =
    let p = err_from_is_err_and c.from_residual.result c.from_residual.ensures.1 in
    rw (p.1, p.2) (turn_failed conds_view (more_cases is_and (literal_at every c.args.levels)) (more_branch is_and (literal_at every c.args.levels) (literal_exact every c.args.levels)) _ (conds_view c.turns.conds) (left (stand c.args.source.now c.turns.cursor)) (left (stand c.args.source.now c.and.new.cursor)) c.turns.invariant.reads c.in_err-more.field-0.0 c.in_err-more.ensures.reads)

pub ands-turns-smaller : goal.ands-turns-smaller
ands-turns-smaller t c = turn_less conds_view (more_cases is_and (literal_at every c.args.levels)) (more_branch is_and (literal_at every c.args.levels) (literal_exact every c.args.levels)) _ (conds_view c.turns.conds) (left (stand c.args.source.now c.turns.cursor)) (left (stand c.args.source.now c.and.new.cursor)) c.turns.invariant.reads c.in-On.more (rw c.in-On.is at c.in_ok-more.ensures.reads)

pub ands-turns-preserved : goal.ands-turns-preserved
ands-turns-preserved t c = record {
  reads = turn_on conds_view (more_cases is_and (literal_at every c.args.levels)) (more_branch is_and (literal_at every c.args.levels) (literal_exact every c.args.levels)) _ (conds_view c.turns.conds) (left (stand c.args.source.now c.turns.cursor)) (left (stand c.args.source.now c.and.new.cursor)) c.turns.invariant.reads c.in-On.more (rw c.in-On.is at c.in_ok-more.ensures.reads);
  passed = λ from h. c.and.ensures.passed from (c.turns.invariant.passed from h);
}

pub ands-returns-in-Off-clause-reads : goal.ands-returns-in-Off-clause-reads
ands-returns-in-Off-clause-reads t c = turn_off conds_view (more_cases is_and (literal_at every c.args.levels)) (more_branch is_and (literal_at every c.args.levels) (literal_exact every c.args.levels)) _ (conds_view c.turns.conds) (left (stand c.args.source.now c.turns.cursor)) (left (stand c.args.source.now c.and.new.cursor)) c.turns.invariant.reads c.in-Off.all (rw c.in-Off.is at c.in_ok-more.ensures.reads)

pub ors-returns-in_err-more-clause-reads : goal.ors-returns-in_err-more-clause-reads
ors-returns-in_err-more-clause-reads t c =
    let p = err_from_is_err_and c.from_residual.result c.from_residual.ensures.1 in
    rw (p.1, p.2) (turn_failed conds_view (more_cases is_or (conjunction_over (literal_at every c.args.levels))) (more_branch is_or (conjunction_over (literal_at every c.args.levels)) (conjunction_exact_over (literal_at every c.args.levels) (literal_exact every c.args.levels))) _ (conds_view c.turns.conds) (left (stand c.args.source.now c.turns.cursor)) (left (stand c.args.source.now c.or.new.cursor)) c.turns.invariant.reads c.in_err-more.field-0.0 c.in_err-more.ensures.reads)

pub ors-turns-smaller : goal.ors-turns-smaller
ors-turns-smaller t c = turn_less conds_view (more_cases is_or (conjunction_over (literal_at every c.args.levels))) (more_branch is_or (conjunction_over (literal_at every c.args.levels)) (conjunction_exact_over (literal_at every c.args.levels) (literal_exact every c.args.levels))) _ (conds_view c.turns.conds) (left (stand c.args.source.now c.turns.cursor)) (left (stand c.args.source.now c.or.new.cursor)) c.turns.invariant.reads c.in-On.more (rw c.in-On.is at c.in_ok-more.ensures.reads)

pub ors-turns-preserved : goal.ors-turns-preserved
ors-turns-preserved t c = record {
  reads = turn_on conds_view (more_cases is_or (conjunction_over (literal_at every c.args.levels))) (more_branch is_or (conjunction_over (literal_at every c.args.levels)) (conjunction_exact_over (literal_at every c.args.levels) (literal_exact every c.args.levels))) _ (conds_view c.turns.conds) (left (stand c.args.source.now c.turns.cursor)) (left (stand c.args.source.now c.or.new.cursor)) c.turns.invariant.reads c.in-On.more (rw c.in-On.is at c.in_ok-more.ensures.reads);
  passed = λ from h. c.or.ensures.passed from (c.turns.invariant.passed from h);
}

pub ors-returns-in-Off-clause-reads : goal.ors-returns-in-Off-clause-reads
ors-returns-in-Off-clause-reads t c = turn_off conds_view (more_cases is_or (conjunction_over (literal_at every c.args.levels))) (more_branch is_or (conjunction_over (literal_at every c.args.levels)) (conjunction_exact_over (literal_at every c.args.levels) (literal_exact every c.args.levels))) _ (conds_view c.turns.conds) (left (stand c.args.source.now c.turns.cursor)) (left (stand c.args.source.now c.or.new.cursor)) c.turns.invariant.reads c.in-Off.all (rw c.in-Off.is at c.in_ok-more.ensures.reads)

pub thing-returns-then-levels-eq0-clause-reads : goal.thing-returns-then-levels-eq0-clause-reads
thing-returns-then-levels-eq0-clause-reads t c = thing_deep_left c.args.levels (left (stand c.args.source.now c.args.cursor.now)) c.if-levels-eq0.true (c.in-LeftRound.ensures ∙ ap kind_at c.peek.ensures)

pub thing-returns-then-levels-eq0-2-clause-reads : goal.thing-returns-then-levels-eq0-2-clause-reads
thing-returns-then-levels-eq0-2-clause-reads t c = thing_deep_not c.args.levels (left (stand c.args.source.now c.args.cursor.now)) c.if-levels-eq0-2.true (c.in-Not.ensures ∙ ap kind_at c.peek.ensures)

pub thing-returns-in_ok-pass-in-LeftRound-clause-reads : goal.thing-returns-in_ok-pass-in-LeftRound-clause-reads
thing-returns-in_ok-pass-in-LeftRound-clause-reads t c = gives_along piece_view c.bracketed.result (left (stand c.args.source.now c.bracketed.new.cursor)) _ _ (thing_left c.args.levels (c.args.levels - 1) (c.args.levels - 1 + 1) (left (stand c.args.source.now c.args.cursor.now)) (left (stand c.args.source.now c.pass.new.cursor)) (omega arith) (omega arith) (c.in-LeftRound.ensures ∙ ap kind_at c.peek.ensures) c.in_ok-pass-in-LeftRound.ensures.rest) c.bracketed.ensures.reads

pub thing-returns-in_ok-pass-in-Not-clause-reads : goal.thing-returns-in_ok-pass-in-Not-clause-reads
thing-returns-in_ok-pass-in-Not-clause-reads t c = gives_along piece_view c.denied.result (left (stand c.args.source.now c.denied.new.cursor)) _ _ (thing_not c.args.levels (c.args.levels - 1) (left (stand c.args.source.now c.args.cursor.now)) (left (stand c.args.source.now c.pass-in-Not.new.cursor)) (omega arith) (c.in-Not.ensures ∙ ap kind_at c.peek.ensures) c.in_ok-pass-in-Not.ensures.rest) c.denied.ensures.reads

pub thing-returns-in-True-clause-reads : goal.thing-returns-in-True-clause-reads
thing-returns-in-True-clause-reads t c = gives_along piece_view c.truth_piece.result (left (stand c.args.source.now c.truth_piece.new.cursor)) _ _ (thing_true c.args.levels (left (stand c.args.source.now c.args.cursor.now)) (c.in-True.ensures ∙ ap kind_at c.peek.ensures)) c.truth_piece.ensures.reads

pub thing-returns-in-False-clause-reads : goal.thing-returns-in-False-clause-reads
thing-returns-in-False-clause-reads t c = gives_along piece_view c.truth_piece-in-False.result (left (stand c.args.source.now c.truth_piece-in-False.new.cursor)) _ _ (thing_false c.args.levels (left (stand c.args.source.now c.args.cursor.now)) (c.in-False.ensures ∙ ap kind_at c.peek.ensures)) c.truth_piece-in-False.ensures.reads

pub plain-returns-then-levels-eq0-clause-reads : goal.plain-returns-then-levels-eq0-clause-reads
plain-returns-then-levels-eq0-clause-reads t c = plain_deep_left c.args.levels (left (stand c.args.source.now c.args.cursor.now)) c.if-levels-eq0.true (c.in-LeftRound.ensures ∙ ap kind_at c.peek.ensures)

pub plain-returns-then-levels-eq0-2-clause-reads : goal.plain-returns-then-levels-eq0-2-clause-reads
plain-returns-then-levels-eq0-2-clause-reads t c = plain_deep_not c.args.levels (left (stand c.args.source.now c.args.cursor.now)) c.if-levels-eq0-2.true (c.in-Not.ensures ∙ ap kind_at c.peek.ensures)

pub plain-returns-in_ok-pass-in-LeftRound-clause-reads : goal.plain-returns-in_ok-pass-in-LeftRound-clause-reads
plain-returns-in_ok-pass-in-LeftRound-clause-reads t c = gives_along condition c.enclosed.result (left (stand c.args.source.now c.enclosed.new.cursor)) _ _ (plain_left c.args.levels (c.args.levels - 1) (left (stand c.args.source.now c.args.cursor.now)) (left (stand c.args.source.now c.pass.new.cursor)) (omega arith) (c.in-LeftRound.ensures ∙ ap kind_at c.peek.ensures) c.in_ok-pass-in-LeftRound.ensures.rest) c.enclosed.ensures.reads

pub plain-returns-in_ok-pass-in-Not-clause-reads : goal.plain-returns-in_ok-pass-in-Not-clause-reads
plain-returns-in_ok-pass-in-Not-clause-reads t c = gives_along condition c.negated.result (left (stand c.args.source.now c.negated.new.cursor)) _ _ (plain_not c.args.levels (c.args.levels - 1) (left (stand c.args.source.now c.args.cursor.now)) (left (stand c.args.source.now c.pass-in-Not.new.cursor)) (omega arith) (c.in-Not.ensures ∙ ap kind_at c.peek.ensures) c.in_ok-pass-in-Not.ensures.rest) c.negated.ensures.reads

pub plain-returns-in-True-clause-reads : goal.plain-returns-in-True-clause-reads
plain-returns-in-True-clause-reads t c = gives_along condition c.truth.result (left (stand c.args.source.now c.truth.new.cursor)) _ _ (plain_true c.args.levels (left (stand c.args.source.now c.args.cursor.now)) (c.in-True.ensures ∙ ap kind_at c.peek.ensures)) c.truth.ensures.reads

pub plain-returns-in-False-clause-reads : goal.plain-returns-in-False-clause-reads
plain-returns-in-False-clause-reads t c = gives_along condition c.truth-in-False.result (left (stand c.args.source.now c.truth-in-False.new.cursor)) _ _ (plain_false c.args.levels (left (stand c.args.source.now c.args.cursor.now)) (c.in-False.ensures ∙ ap kind_at c.peek.ensures)) c.truth-in-False.ensures.reads

pub thing-returns-in_default : goal.thing-returns-in_default
thing-returns-in_default t c = record {
  reads = gives_along piece_view c.sum_thing.result (left (stand c.args.source.now c.sum_thing.new.cursor)) _ _ (thing_other c.args.levels (left (stand c.args.source.now c.args.cursor.now)) c.kind_of.result (c.kind_of.ensures ∙ ap kind_at c.peek.ensures) c.in_default.not-LeftRound c.in_default.not-Not c.in_default.not-True c.in_default.not-False) c.sum_thing.ensures.reads;
  passed = c.sum_thing.ensures.passed;
}

pub plain-returns-in_default : goal.plain-returns-in_default
plain-returns-in_default t c = record {
  reads = plain_other c.args.levels (left (stand c.args.source.now c.args.cursor.now)) c.kind_of.result (c.kind_of.ensures ∙ ap kind_at c.peek.ensures) c.in_default.not-LeftRound c.in_default.not-Not c.in_default.not-True c.in_default.not-False;
  passed = λ from h. h;
}

use Rattle.std.proofs.Common.{◌-◌, arith, sym, ap, ◌∙◌}
use Rattle.std.specs.Option.{option_map}
use Rattle.tv_language.specs.declared.token.TokenKind.TheVariants as kinds
use Rattle.std.proofs.lemmas.Result.{err_from_is_err_and}
use Rattle.tv_reading.specs.Marks.{left}
use Rattle.tv_reading.specs.SumGrammar.{every, factor_at, product_at, star_cases, sum_cases}
use Rattle.tv_reading.specs.Views.{stand, mark_of, kind_at, made_view, parts_view}
use Rattle.tv_reading.proofs.SumLemmas.{star_branch, sum_branch, factor_exact, product_exact}
use Rattle.tv_reading.proofs.AnswerLemmas.{gives_along, turn_failed, turn_on, turn_less, turn_off}
use Rattle.tv_reading.proofs.SumSteps.{deep_left, deep_minus, left_read, minus_read, none_read, leaf_read, kind_is, one_factor, one_product}
use Rattle.tv_reading.proofs.sums.+sums.Goals as goal

pub factor-returns-then-levels-eq0-clause-reads : goal.factor-returns-then-levels-eq0-clause-reads
factor-returns-then-levels-eq0-clause-reads t c = deep_left c.args.levels c.args.free (left (stand c.args.source.now c.args.cursor.now)) c.if-levels-eq0.true (kind_is (option_map mark_of c.peek-part.result) kinds.LeftRound c.in-LeftRound.ensures (λ w. cc) ∙ c.peek-part.ensures)

pub factor-returns-then-levels-eq0-2-clause-reads : goal.factor-returns-then-levels-eq0-2-clause-reads
factor-returns-then-levels-eq0-2-clause-reads t c = deep_minus c.args.levels c.args.free (left (stand c.args.source.now c.args.cursor.now)) c.if-levels-eq0-2.true (kind_is (option_map mark_of c.peek-part.result) kinds.Minus c.in-Minus.ensures (λ w. cc) ∙ c.peek-part.ensures)

pub factor-returns-in_ok-pass-in-LeftRound-clause-reads : goal.factor-returns-in_ok-pass-in-LeftRound-clause-reads
factor-returns-in_ok-pass-in-LeftRound-clause-reads t c = gives_along made_view c.bracketed.result (left (stand c.args.source.now c.bracketed.new.cursor)) _ _ (left_read c.args.levels (c.args.levels - 1) c.args.free (left (stand c.args.source.now c.args.cursor.now)) (left (stand c.args.source.now c.pass.new.cursor)) (omega arith) (kind_is (option_map mark_of c.peek-part.result) kinds.LeftRound c.in-LeftRound.ensures (λ w. cc) ∙ c.peek-part.ensures) c.in_ok-pass-in-LeftRound.ensures.rest) c.bracketed.ensures.reads

pub factor-returns-in_ok-pass-in-Minus-clause-reads : goal.factor-returns-in_ok-pass-in-Minus-clause-reads
factor-returns-in_ok-pass-in-Minus-clause-reads t c = gives_along made_view c.signed.result (left (stand c.args.source.now c.signed.new.cursor)) _ _ (minus_read c.args.levels (c.args.levels - 1) c.args.free (left (stand c.args.source.now c.args.cursor.now)) (left (stand c.args.source.now c.pass-in-Minus.new.cursor)) (omega arith) (kind_is (option_map mark_of c.peek-part.result) kinds.Minus c.in-Minus.ensures (λ w. cc) ∙ c.peek-part.ensures) c.in_ok-pass-in-Minus.ensures.rest) c.signed.ensures.reads

pub factor-returns-in-Some : goal.factor-returns-in-Some
factor-returns-in-Some t c = record {
  reads = gives_along made_view c.leaf.result (left (stand c.args.source.now c.leaf.new.cursor)) _ _ (leaf_read c.args.levels c.args.free (left (stand c.args.source.now c.args.cursor.now)) (mark_of c.in-Some.part) c.kind_of.result (sym (ap (option_map mark_of) c.in-Some.is) ∙ c.peek-part.ensures) (c.kind_of.ensures ∙ ap (λ o. kind_at (option_map mark_of o)) c.in-Some.is) c.in_default.not-LeftRound c.in_default.not-Minus) c.leaf.ensures.reads;
  passed = c.leaf.ensures.passed;
}

pub factor-returns-in-None : goal.factor-returns-in-None
factor-returns-in-None t c = record {
  reads = none_read c.args.levels c.args.free (left (stand c.args.source.now c.args.cursor.now)) (sym (ap (option_map mark_of) c.in-None.is) ∙ c.peek-part.ensures);
  passed = λ from h. h;
}

pub signs-returns-in_err-more-clause-reads : goal.signs-returns-in_err-more-clause-reads
signs-returns-in_err-more-clause-reads t c =
    let p = err_from_is_err_and c.from_residual.result c.from_residual.ensures.1 in
    rw (p.1, p.2) (turn_failed parts_view (sum_cases (product_at every c.args.levels c.args.free)) (sum_branch (product_at every c.args.levels c.args.free) (product_exact every c.args.levels c.args.free)) _ (parts_view c.turns.run) (left (stand c.args.source.now c.turns.cursor)) (left (stand c.args.source.now c.sign.new.cursor)) c.turns.invariant.reads c.in_err-more.field-0.0 c.in_err-more.ensures.reads)

pub signs-turns-smaller : goal.signs-turns-smaller
signs-turns-smaller t c = turn_less parts_view (sum_cases (product_at every c.args.levels c.args.free)) (sum_branch (product_at every c.args.levels c.args.free) (product_exact every c.args.levels c.args.free)) _ (parts_view c.turns.run) (left (stand c.args.source.now c.turns.cursor)) (left (stand c.args.source.now c.sign.new.cursor)) c.turns.invariant.reads c.in-On.more (rw c.in-On.is at c.in_ok-more.ensures.reads)

pub signs-turns-preserved : goal.signs-turns-preserved
signs-turns-preserved t c = record {
  reads = turn_on parts_view (sum_cases (product_at every c.args.levels c.args.free)) (sum_branch (product_at every c.args.levels c.args.free) (product_exact every c.args.levels c.args.free)) _ (parts_view c.turns.run) (left (stand c.args.source.now c.turns.cursor)) (left (stand c.args.source.now c.sign.new.cursor)) c.turns.invariant.reads c.in-On.more (rw c.in-On.is at c.in_ok-more.ensures.reads);
  passed = λ from h. c.sign.ensures.passed from (c.turns.invariant.passed from h);
}

pub signs-returns-in-Off-clause-reads : goal.signs-returns-in-Off-clause-reads
signs-returns-in-Off-clause-reads t c = turn_off parts_view (sum_cases (product_at every c.args.levels c.args.free)) (sum_branch (product_at every c.args.levels c.args.free) (product_exact every c.args.levels c.args.free)) _ (parts_view c.turns.run) (left (stand c.args.source.now c.turns.cursor)) (left (stand c.args.source.now c.sign.new.cursor)) c.turns.invariant.reads c.in-Off.all (rw c.in-Off.is at c.in_ok-more.ensures.reads)

pub stars-returns-in_err-more-clause-reads : goal.stars-returns-in_err-more-clause-reads
stars-returns-in_err-more-clause-reads t c =
    let p = err_from_is_err_and c.from_residual.result c.from_residual.ensures.1 in
    rw (p.1, p.2) (turn_failed parts_view (star_cases (factor_at every c.args.levels) c.args.free) (star_branch (factor_at every c.args.levels) (factor_exact every c.args.levels) c.args.free) _ (parts_view c.turns.run) (left (stand c.args.source.now c.turns.cursor)) (left (stand c.args.source.now c.star.new.cursor)) c.turns.invariant.reads c.in_err-more.field-0.0 c.in_err-more.ensures.reads)

pub stars-turns-smaller : goal.stars-turns-smaller
stars-turns-smaller t c = turn_less parts_view (star_cases (factor_at every c.args.levels) c.args.free) (star_branch (factor_at every c.args.levels) (factor_exact every c.args.levels) c.args.free) _ (parts_view c.turns.run) (left (stand c.args.source.now c.turns.cursor)) (left (stand c.args.source.now c.star.new.cursor)) c.turns.invariant.reads c.in-On.more (rw c.in-On.is at c.in_ok-more.ensures.reads)

pub stars-turns-preserved : goal.stars-turns-preserved
stars-turns-preserved t c = record {
  reads = turn_on parts_view (star_cases (factor_at every c.args.levels) c.args.free) (star_branch (factor_at every c.args.levels) (factor_exact every c.args.levels) c.args.free) _ (parts_view c.turns.run) (left (stand c.args.source.now c.turns.cursor)) (left (stand c.args.source.now c.star.new.cursor)) c.turns.invariant.reads c.in-On.more (rw c.in-On.is at c.in_ok-more.ensures.reads);
  passed = λ from h. c.star.ensures.passed from (c.turns.invariant.passed from h);
}

pub stars-returns-in-Off-clause-reads : goal.stars-returns-in-Off-clause-reads
stars-returns-in-Off-clause-reads t c = turn_off parts_view (star_cases (factor_at every c.args.levels) c.args.free) (star_branch (factor_at every c.args.levels) (factor_exact every c.args.levels) c.args.free) _ (parts_view c.turns.run) (left (stand c.args.source.now c.turns.cursor)) (left (stand c.args.source.now c.star.new.cursor)) c.turns.invariant.reads c.in-Off.all (rw c.in-Off.is at c.in_ok-more.ensures.reads)

pub product_from-returns-in_default : goal.product_from-returns-in_default
product_from-returns-in_default t c = record {
  reads = one_factor c.args.levels c.args.free (made_view c.args.first) (left (stand c.args.source.now c.args.cursor.now)) c.next_kind.result c.next_kind.ensures c.in_default.not-Star;
  passed = λ from h. h;
}

pub sum_from-returns-in_default : goal.sum_from-returns-in_default
sum_from-returns-in_default t c = record {
  reads = one_product c.args.levels c.args.free (made_view c.args.first) (left (stand c.args.source.now c.args.cursor.now)) c.next_kind.result c.next_kind.ensures c.in_default.not-Plus c.in_default.not-Minus;
  passed = λ from h. h;
}

use Rattle.std.proofs.Common.{rules, arith, ◌<◌, ◌∙◌, ap, length, get_or, pos, FitsSigned}
use Rattle.std.specs.Int.{w128}
use Rattle.std.proofs.lemmas.Int.{to_z-of_z}
use Rattle.tv_linear.specs.Known.{given}
use Rattle.tv_refute.specs.Terms.{terms_of}
use Rattle.tv_linear.specs.Views.{row_seen}
use Rattle.tv_refute.proofs.Composed.{all_cleared, composed_next, compose_fails, composed_all}
use Rattle.tv_refute.proofs.blocks.compose_row.Goals as goal

pub loop-v-init : goal.loop-v-init
loop-v-init c = record {
  sums = all_cleared (given (row_seen c.args.row)) (terms_of c.args.terms.now) c.args.column c.args.count c.change_each.result c.change_each.new.numbers c.change_each.ensures.told;
  size = c.change_each.ensures.size;
}

pub returns-then-not-add_term-clause-told : goal.returns-then-not-add_term-clause-told
returns-then-not-add_term-clause-told c =
    let number_fits : FitsSigned w128 c.at.result = search rules in
    let told = simp to_z-of_z at c.if-not-add_term.ensures.told in
    let below : c.loop-v.v < length (terms_of c.args.terms.now) = omega (arith, c.term_count-v-end.ensures, c.loop-v-test.true) in
    compose_fails (given (row_seen c.args.row)) (terms_of c.args.terms.now) c.args.column c.args.count c.loop-v.totals c.loop-v.v c.loop-v.invariant.sums below
    c.at.result (c.at.ensures ∙ ap (λ xs. get_or xs c.loop-v.v (pos 0)) c.coefficients-coefficients.ensures.is) c.add_term.new.totals c.add_term.new.totals told

pub loop-v-preserved : goal.loop-v-preserved
loop-v-preserved c =
    let number_fits : FitsSigned w128 c.at.result = search rules in
    let told = simp to_z-of_z at c.if-not-add_term.ensures.told in
    let below : c.loop-v.v < length (terms_of c.args.terms.now) = omega (arith, c.term_count-v-end.ensures, c.loop-v-test.true) in
    record {
      sums = composed_next (given (row_seen c.args.row)) (terms_of c.args.terms.now) c.args.column c.args.count c.loop-v.totals c.loop-v.v c.loop-v.invariant.sums below
          c.at.result (c.at.ensures ∙ ap (λ xs. get_or xs c.loop-v.v (pos 0)) c.coefficients-coefficients.ensures.is) c.add_term.new.totals tt told;
      size = c.if-not-add_term.ensures.size ∙ c.loop-v.invariant.size;
    }

pub returns-clause-told : goal.returns-clause-told
returns-clause-told c = composed_all (given (row_seen c.args.row)) (terms_of c.args.terms.now) c.args.column c.args.count c.loop-v.totals c.loop-v.v c.loop-v.invariant.sums (omega (arith, c.loop-v-test.false, c.term_count-v-end.ensures))

use Rattle.std.proofs.Common.{rules, arith, ◌≡◌, ◌+◌, ◌<◌, ◌∙◌, Some, ap, subst, length, get_or, pos, FitsSigned}
use Rattle.std.specs.Int.{w128}
use Rattle.std.proofs.lemmas.Int.{to_z-of_z}
use Rattle.tv_linear.specs.Known.{known_number}
use Rattle.tv_refute.specs.Blocks.{further}
use Rattle.tv_refute.specs.Built.{built}
use Rattle.tv_refute.specs.Terms.{terms_of}
use Rattle.tv_refute.proofs.Composed.{AreComposing, all_cleared, composed_next, compose_fails, composed_all, read_fails, sums_fail, constant_added}
use Rattle.tv_refute.proofs.built.+numbers.Goals as goal

pub compose_read-blocks-2-init : goal.compose_read-blocks-2-init
compose_read-blocks-2-init t c = record {
  sums = all_cleared (built c.args.inner.now) (terms_of c.args.terms.now) c.args.column c.args.count c.change_each.result c.change_each.new.numbers c.change_each.ensures.told;
  size = c.change_each.ensures.size;
}

pub compose_read-returns-then-not-read_numbers-clause-told : goal.compose_read-returns-then-not-read_numbers-clause-told
compose_read-returns-then-not-read_numbers-clause-told t c =
    read_fails (built c.args.inner.now) (terms_of c.args.terms.now) c.args.column c.args.count c.blocks-2.first c.min-width.result
    (λ i. known_number (built c.args.inner.now) (further (Some c.blocks-2.first) i)) c.read_numbers.new.numbers c.blocks-2.totals
    (omega (arith, c.min-width.ensures, c.term_count-places.ensures, c.blocks-2-test.true)) c.requires.some c.if-not-read_numbers.ensures.told

pub compose_read-returns-then-not-add_term-clause-told : goal.compose_read-returns-then-not-add_term-clause-told
compose_read-returns-then-not-add_term-clause-told t c =
    let number_fits : FitsSigned w128 (get_or c.read_numbers.new.numbers c.places.i (pos 0)) = search rules in
    let told = simp to_z-of_z at c.if-not-add_term.ensures.told in
    let number = c.if-not-read_numbers.ensures.told c.places.i c.places-test.true in
    let below : c.blocks-2.first + c.places.i < length (terms_of c.args.terms.now) = omega (arith, c.min-width.ensures, c.term_count-places.ensures, c.blocks-2-test.true, c.places-test.true) in
    compose_fails (built c.args.inner.now) (terms_of c.args.terms.now) c.args.column c.args.count c.places.totals (c.blocks-2.first + c.places.i) c.places.invariant.sums below
    (get_or c.read_numbers.new.numbers c.places.i (pos 0)) number.1 c.add_term.new.totals c.add_term.new.totals told

pub compose_read-places-preserved : goal.compose_read-places-preserved
compose_read-places-preserved t c =
    let number_fits : FitsSigned w128 (get_or c.read_numbers.new.numbers c.places.i (pos 0)) = search rules in
    let told = simp to_z-of_z at c.if-not-add_term.ensures.told in
    let number = c.if-not-read_numbers.ensures.told c.places.i c.places-test.true in
    let below : c.blocks-2.first + c.places.i < length (terms_of c.args.terms.now) = omega (arith, c.min-width.ensures, c.term_count-places.ensures, c.blocks-2-test.true, c.places-test.true) in
    let next : (c.blocks-2.first + c.places.i) + 1 ≡ c.blocks-2.first + (c.places.i + 1) = omega arith in
    record {
      sums = subst (AreComposing (built c.args.inner.now) (terms_of c.args.terms.now) c.args.column c.args.count c.add_term.new.totals) next
          (composed_next (built c.args.inner.now) (terms_of c.args.terms.now) c.args.column c.args.count c.places.totals (c.blocks-2.first + c.places.i) c.places.invariant.sums below
          (get_or c.read_numbers.new.numbers c.places.i (pos 0)) number.1 c.add_term.new.totals number.0 told);
      size = c.if-not-add_term.ensures.size ∙ c.places.invariant.size;
    }

pub compose_read-returns-clause-told : goal.compose_read-returns-clause-told
compose_read-returns-clause-told t c = composed_all (built c.args.inner.now) (terms_of c.args.terms.now) c.args.column c.args.count c.blocks-2.totals c.blocks-2.first c.blocks-2.invariant.sums (omega (arith, c.blocks-2-test.false, c.term_count-places.ensures))

pub read_numbers-returns-then-not-compose-clause-told : goal.read_numbers-returns-then-not-compose-clause-told
read_numbers-returns-then-not-compose-clause-told t c = sums_fail (built c.args.known.now) (built c.in-Composed.inner.now) (terms_of c.in-Composed.terms.now) c.args.column c.args.count (ap built c.in-Composed.is) c.compose.new.totals c.compose.new.totals c.if-not-compose.ensures.told

pub read_numbers-returns-else-not-compose-clause-told : goal.read_numbers-returns-else-not-compose-clause-told
read_numbers-returns-else-not-compose-clause-told t c = constant_added (built c.args.known.now) (built c.in-Composed.inner.now) (terms_of c.in-Composed.terms.now) c.args.column c.args.count (ap built c.in-Composed.is) c.add_constant.result c.compose.new.totals c.add_constant.new.numbers c.if-not-compose.ensures.told c.add_constant.ensures.told

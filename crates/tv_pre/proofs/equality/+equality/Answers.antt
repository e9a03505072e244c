use Rattle.std.proofs.Common.{map, sym, ap, ◌∙◌, arith}
use Rattle.tv_cert.specs.AimViews.{aim_states, statements_of}
use Rattle.tv_cert.specs.Statements.{each_of, one_of}
use Rattle.tv_pre.proofs.EqualityLemmas.{each_is, one_is, parts_same, same_at, parts}
use Rattle.tv_pre.proofs.equality.+equality.Goals as goal

pub all_are_equal-returns-then-not-are_equal : goal.all_are_equal-returns-then-not-are_equal
all_are_equal-returns-then-not-are_equal t c =
    let place = c.aims.place in
    let below = c.aims-test.true in
    let many = c.aims.invariant.0 in (
      λ h. absurd cc,
      λ e. sym c.if-not-are_equal.true ∙ c.are_equal.ensures.1
          (same_at c.args.first.now c.args.second.now place c.index-first-place.result c.index-second-place.result below (omega (arith, below, many)) c.index-first-place.is c.index-second-place.is e),
    )

pub are_equal-returns-in-EachOf-EachOf : goal.are_equal-returns-in-EachOf-EachOf
are_equal-returns-in-EachOf-EachOf t c =
    let one = each_is c.args.first.now c.in-EachOf-EachOf.aims c.in-EachOf-EachOf.is-0 in
    let other = each_is c.args.second.now c.in-EachOf-EachOf.others c.in-EachOf-EachOf.is-1 in
    let first = c.deref-in-EachOf-EachOf.ensures.value in
    let second = c.deref-in-EachOf-EachOf-2.ensures.value in (
      λ h. one ∙ ap (λ ss. each_of (statements_of ss)) (ap (map aim_states) (sym first) ∙ c.all_are_equal.ensures.0 h ∙ ap (map aim_states) second) ∙ sym other,
      λ e. c.all_are_equal.ensures.1 (ap (map aim_states) first ∙ parts_same _ _ _ _ (ap parts one) (ap parts other) e ∙ ap (map aim_states) (sym second)),
    )

pub are_equal-returns-in-OneOf-OneOf : goal.are_equal-returns-in-OneOf-OneOf
are_equal-returns-in-OneOf-OneOf t c =
    let one = one_is c.args.first.now c.in-OneOf-OneOf.aims c.in-OneOf-OneOf.is-0 in
    let other = one_is c.args.second.now c.in-OneOf-OneOf.others c.in-OneOf-OneOf.is-1 in
    let first = c.deref-in-OneOf-OneOf.ensures.value in
    let second = c.deref-in-OneOf-OneOf-2.ensures.value in (
      λ h. one ∙ ap (λ ss. one_of (statements_of ss)) (ap (map aim_states) (sym first) ∙ c.all_are_equal-in-OneOf-OneOf.ensures.0 h ∙ ap (map aim_states) second) ∙ sym other,
      λ e. c.all_are_equal-in-OneOf-OneOf.ensures.1 (ap (map aim_states) first ∙ parts_same _ _ _ _ (ap parts one) (ap parts other) e ∙ ap (map aim_states) (sym second)),
    )

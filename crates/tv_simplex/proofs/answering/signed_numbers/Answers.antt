use Rattle.std.proofs.Common.{rules, FitsSigned, pos, get_or, arith, ap, ◌∙◌, ◌*ℤ◌, unsigned_abs}
use Rattle.std.specs.Int.{w128}
use Rattle.std.proofs.lemmas.Int.{to_z-of_z}
use Rattle.tv_simplex.specs.Systems.{sign_of}
use Rattle.tv_simplex.specs.Views.{equations}
use Rattle.tv_simplex.proofs.AnswerLemmas.{signed_more, short_fits}
use Rattle.tv_simplex.proofs.answering.signed_numbers.Goals as goal

pub rows-preserved : goal.rows-preserved
rows-preserved c =
    let n = get_or c.args.numbers.now c.rows.row (pos 0) in
    let short = c.requires.short c.rows.row c.rows-test.true in
    let fs : FitsSigned w128 c.signed.result = search rules in
    let fr : FitsSigned w128 c.right_at.result = search rules in
    let zs = to_z-of_z w128 c.signed.result fs in
    let zr = to_z-of_z w128 c.right_at.result fr ∙ c.right_at.ensures in
    let zn = to_z-of_z w128 n (short_fits n short) in
    let m = ap unsigned_abs zs ∙ c.signed.ensures.magnitude ∙ ap unsigned_abs zn in
    signed_more (equations c.args.system.now) c.rows.row c.args.numbers.now c.rows.y.items c.push_item.new.items.items _ c.rows.invariant c.in_ok-push_item.ensures
    (zs ∙ c.signed.ensures.value ∙ (λ i. sign_of (zr i) *ℤ zn i))
    (omega (arith, m, short))

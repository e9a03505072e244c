use Rattle.std.proofs.Common.{rules, FitsSigned, ◌∙◌, ◌*ℤ◌, sym, subst, arith, get_or, pos}
use Rattle.std.specs.Int.{w128}
use Rattle.std.proofs.lemmas.Int.{to_z-of_z}
use mir.Val.{to_z, of_z}
use Rattle.tv_farkas.specs.Paths.{IsWholeAt}
use Rattle.tv_farkas.specs.Stretching.{IsFloor}
use Rattle.tv_simplex.proofs.RowLemmas.{tested_true, tested_false}
use Rattle.tv_simplex.proofs.AnswerLemmas.{short_fits}
use Rattle.tv_farkas.proofs.FloorLemmas.{not_whole, whole_more}
use Rattle.tv_farkas.proofs.points.first_fraction.Goals as goal

pub returns-then-not-is_product : goal.returns-then-not-is_product
returns-then-not-is_product c =
    let z = to_z-of_z w128 c.args.scale c.ranges.scale in
    let v = get_or c.args.values.now c.columns.column (pos 0) in
    let zv = to_z-of_z w128 v (short_fits v (c.requires.values c.columns.column c.columns-test.true)) in
    let fk : FitsSigned w128 c.floor_of-floor.result = search rules in
    let zk = to_z-of_z w128 c.floor_of-floor.result fk in
    let floor = subst (λ s. IsFloor v s c.floor_of-floor.result) z (subst (λ x. IsFloor x (to_z w128 (of_z w128 c.args.scale)) c.floor_of-floor.result) zv c.floor_of-floor.ensures.floor) in
    let never = tested_false c.is_product.result c.is_product.ensures c.if-not-is_product.true in (
      c.columns-test.true,
      λ i l. subst (λ s. IsWholeAt c.args.values.now s i) z (c.columns.invariant i l),
      not_whole c.args.values.now c.args.scale c.floor_of-floor.result c.columns.column c.requires.positive floor (λ e. never ((λ i. zk i *ℤ z i) ∙ e ∙ sym zv)),
    )

pub columns-preserved : goal.columns-preserved
columns-preserved c =
    let z = to_z-of_z w128 c.args.scale c.ranges.scale in
    let v = get_or c.args.values.now c.columns.column (pos 0) in
    let zv = to_z-of_z w128 v (short_fits v (c.requires.values c.columns.column c.columns-test.true)) in
    let e = tested_true c.is_product.result c.is_product.ensures c.if-not-is_product.false in
    whole_more c.args.values.now _ _ c.columns.column (e ∙ zv) c.columns.invariant

pub returns : goal.returns
returns c = λ j l. subst (λ s. IsWholeAt c.args.values.now s j) (to_z-of_z w128 c.args.scale c.ranges.scale) (c.columns.invariant j (omega arith))

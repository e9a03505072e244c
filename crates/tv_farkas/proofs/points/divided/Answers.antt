use Rattle.std.proofs.Common.{rules, FitsSigned, ◌++◌, ◌∷◌, [], ◌∙◌, ap, sym, subst, get_or, pos, ◌<ℤ◌}
use Rattle.std.specs.Int.{w128}
use Rattle.std.proofs.lemmas.Int.{to_z-of_z}
use mir.Val.{to_z, of_z}
use Rattle.tv_farkas.specs.Paths.{IsWholeAt}
use Rattle.tv_farkas.specs.Stretching.{IsFloor}
use Rattle.tv_simplex.proofs.AnswerLemmas.{short_fits}
use Rattle.tv_farkas.proofs.FloorLemmas.{divided_more}
use Rattle.tv_farkas.proofs.points.divided.Goals as goal

pub columns-preserved : goal.columns-preserved
columns-preserved c =
    let z = to_z-of_z w128 c.args.scale c.ranges.scale in
    let v = get_or c.args.values.now c.columns.column (pos 0) in
    let zv = to_z-of_z w128 v (short_fits v (c.requires.values c.columns.column c.columns-test.true)) in
    let fk : FitsSigned w128 c.floor_of.result = search rules in
    let zk = to_z-of_z w128 c.floor_of.result fk in
    divided_more c.args.values.now _ c.floor_of.result c.columns.column c.columns.xs.items c.push_item.new.items.items (subst (λ s. pos 0 <ℤ s) (sym z) c.requires.positive)
    (subst (λ x. IsFloor x (to_z w128 (of_z w128 c.args.scale)) c.floor_of.result) zv c.floor_of.ensures.floor) c.floor_of.ensures.short
    (subst (λ s. IsWholeAt c.args.values.now s c.columns.column) (sym z) (c.requires.whole c.columns.column c.columns-test.true))
    (c.in_ok-push_item.ensures ∙ ap (λ k. c.columns.xs.items ++ k ∷ []) zk) c.columns.invariant

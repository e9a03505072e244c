use Rattle.std.proofs.Common.{rules, FitsSigned, ◌≡◌, ◌∙◌, ap, arith, take, map, neg_ℤ}
use Rattle.std.specs.Int.{w128}
use Rattle.std.proofs.lemmas.Int.{to_z-of_z}
use Rattle.tv_farkas.proofs.PointLemmas.{opposites}
use Rattle.tv_farkas.proofs.refuting.point_of.Goals as goal

pub returns : goal.returns
returns c =
    let f : FitsSigned w128 c.opposite_at-2.result = search rules in
    let z = to_z-of_z w128 c.opposite_at-2.result f ∙ c.opposite_at-2.ensures in
    opposites c.args.y.now c.args.columns c.columns.values.items _ c.requires.many (c.columns.invariant ∙ ap (λ k. map neg_ℤ (take k c.args.y.now)) (let e : c.columns.column ≡ c.args.columns = omega arith in e)) z

use Rattle.std.proofs.Common.{rules, FitsSigned, ◌∙◌, sym, subst}
use Rattle.std.specs.Int.{w128, int_div_euclid}
use Rattle.std.proofs.lemmas.Int.{to_z-of_z}
use Rattle.tv_farkas.specs.Stretching.{IsFloor}
use Rattle.tv_farkas.proofs.FloorLemmas.{is_floor}
use Rattle.tv_farkas.proofs.points.floor_of.Goals as goal

pub returns-clause-floor : goal.returns-clause-floor
returns-clause-floor c =
    let f : FitsSigned w128 c.div_euclid.result = search rules in
    let e = to_z-of_z w128 c.div_euclid.result f ∙ c.div_euclid.ensures ∙ (λ i. int_div_euclid (to_z-of_z w128 c.args.number c.ranges.number i) (to_z-of_z w128 c.args.scale c.ranges.scale i)) in
    subst (λ k. IsFloor c.args.number c.args.scale k) (sym e) (is_floor c.args.number c.args.scale c.requires.positive)

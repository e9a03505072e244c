use Rattle.std.proofs.Common.{◌<◌, ◌≤◌, ◌*◌, ◌/◌, ◌^◌, arith, subst, sym}
use Rattle.tv_fraction.proofs.LowestTerms.{gcd_above}
use Rattle.tv_simplex.specs.Scales.{IsLarger}
use Rattle.tv_simplex.proofs.ScaleLemmas.{is_larger, no_larger, not_below}
use Rattle.tv_simplex.proofs.scaling.larger_scale.Goals as goal

pub nonzero_div-scale : goal.nonzero_div-scale
nonzero_div-scale c = gcd_above c.args.scale c.args.denominator c.gcd-common.result c.requires.denominator c.gcd-common.ensures

pub returns-in-None : goal.returns-in-None
returns-in-None c = no_larger c.args.scale c.args.denominator c.gcd-common.result c.requires.scale c.requires.denominator c.gcd-common.ensures
    (let wide = not_below (c.args.scale / c.gcd-common.result * c.args.denominator) (2 ^ 128) c.in-None.ensures in omega (arith, wide))

pub returns-then-larger : goal.returns-then-larger
returns-then-larger c =
    let e = c.in-Some.ensures.1 in
    subst (λ z. IsLarger c.args.scale c.args.denominator z) (sym e) (is_larger c.args.scale c.args.denominator c.gcd-common.result c.requires.scale c.requires.denominator c.gcd-common.ensures (subst (λ z. z < 2 ^ 62) e c.if-larger.true))

pub returns-else-larger : goal.returns-else-larger
returns-else-larger c =
    let e = c.in-Some.ensures.1 in
    no_larger c.args.scale c.args.denominator c.gcd-common.result c.requires.scale c.requires.denominator c.gcd-common.ensures (subst (λ z. 2 ^ 62 ≤ z) e c.if-larger.false)

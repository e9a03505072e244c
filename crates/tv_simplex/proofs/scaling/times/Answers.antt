use Rattle.std.proofs.Common.{rules, FitsSigned, ◌≡◌, ◌∙◌, ap, pos, ◌*ℤ◌, unsigned_abs, ◌/◌}
use Rattle.std.specs.Int.{w128}
use Rattle.std.proofs.lemmas.Int.{to_z-of_z}
use mir.Val.{to_z, of_z}
use Rattle.tv_simplex.proofs.ScaleLemmas.{is_times}
use Rattle.tv_simplex.proofs.scaling.times.Goals as goal

pub returns : goal.returns
returns c =
    let f : FitsSigned w128 c.product.result = search rules in
    let fn : FitsSigned w128 c.numerator.result = search rules in
    let fd : FitsSigned w128 c.denominator.result = search rules in
    let n = to_z-of_z w128 c.numerator.result fn ∙ c.numerator.ensures in
    let d : c.unsigned_abs.result ≡ unsigned_abs c.args.fraction.now.denominator = c.unsigned_abs.ensures.value ∙ ap unsigned_abs (to_z-of_z w128 c.denominator.result fd ∙ c.denominator.ensures) in
    is_times c.args.fraction.now c.args.scale (to_z w128 (of_z w128 c.product.result)) c.requires.divisor
    (to_z-of_z w128 c.product.result f ∙ c.product.ensures ∙ (λ i. n i *ℤ pos (c.args.scale / d i)))

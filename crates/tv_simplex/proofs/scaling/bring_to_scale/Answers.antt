use Rattle.std.proofs.Common.{rules, FitsSigned, ◌<◌, ◌≤◌, ◌^◌, ◌++◌, ◌∷◌, [], ◌∙◌, ap, sym, subst, unsigned_abs}
use Rattle.std.specs.Int.{w128}
use Rattle.std.proofs.lemmas.Int.{to_z-of_z}
use Prim.Native.Nat.{◌∣◌}
use Rattle.tv_simplex.proofs.ScaleLemmas.{no_scale, no_scale_at, scaled_more}
use Rattle.tv_simplex.proofs.scaling.bring_to_scale.Goals as goal

pub returns-in-None : goal.returns-in-None
returns-in-None c = no_scale c.args.fractions.now c.in-None.ensures

pub times-whole-requires-clause-divisor : goal.times-whole-requires-clause-divisor
times-whole-requires-clause-divisor c = subst (λ r. unsigned_abs r.denominator ∣ c.in-Some.scale) (sym c.fraction_at.ensures.is) (c.in-Some.ensures.multiple c.places.j c.places-test.true)

pub returns-then-unsigned_abs : goal.returns-then-unsigned_abs
returns-then-unsigned_abs c =
    let f : FitsSigned w128 c.times-whole.result = search rules in
    let e = c.unsigned_abs.ensures.value ∙ ap unsigned_abs (to_z-of_z w128 c.times-whole.result f) in
    no_scale_at c.args.fractions.now c.in-Some.scale c.places.j c.fraction_at.result c.times-whole.result c.places-test.true c.fraction_at.ensures.is c.in-Some.ensures c.times-whole.ensures
    (subst (λ z. 2 ^ 62 ≤ z) e c.if-unsigned_abs.true)

pub places-preserved : goal.places-preserved
places-preserved c =
    let f : FitsSigned w128 c.times-whole.result = search rules in
    let z = to_z-of_z w128 c.times-whole.result f in
    let e = c.unsigned_abs.ensures.value ∙ ap unsigned_abs z in
    let h = c.in_ok-push_item.ensures in
    let v = c.places.invariant in
    let m = scaled_more c.args.fractions.now c.in-Some.scale c.places.j c.fraction_at.result c.times-whole.result c.places.numbers.items c.push_item.new.items.items c.places-test.true c.fraction_at.ensures.is c.times-whole.ensures
    (subst (λ k. k < 2 ^ 62) e c.if-unsigned_abs.false) (h ∙ ap (λ k. c.places.numbers.items ++ k ∷ []) z) v.size v.same v.short in
    record { size = m.0; same = m.1; short = m.2 }

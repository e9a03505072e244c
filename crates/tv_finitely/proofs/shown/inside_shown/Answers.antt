use Rattle.std.proofs.Common.{◌∙◌, length, All, ap, sym, subst, arith}
use Rattle.std.proofs.lemmas.List.{length-map}
use Rattle.tv_rank.specs.Given.{lists}
use Rattle.tv_lexrank.specs.Covering.{IsLined}
use Rattle.tv_lexrank.specs.Rounds.{place_in}
use Rattle.tv_lexrank.specs.Sorting.{refutation_at}
use Rattle.tv_lexrank.proofs.StepLemmas.{stands_if, stands_empty}
use Rattle.tv_finitely.specs.Lines.{IsInsideFall}
use Rattle.tv_finitely.specs.Ranked.{system_of}
use Rattle.tv_finitely.proofs.ShownLemmas.{inside_case, refuted_case}
use Rattle.tv_finitely.proofs.Taken.{taken_by, taken_lined}
use Rattle.tv_finitely.proofs.shown.inside_shown.Goals as goal

pub inside_fall-requires-clause-lined : goal.inside_fall-requires-clause-lined
inside_fall-requires-clause-lined c =
    let r = c.args.ranking.now in
    let p = c.part-part.result.now in
    let e = c.part-part.ensures.part.enough in
    let known = r.known.now.pieces.items in
    subst (All IsLined) (sym c.deref-then-place_in-len.ensures.value)
    (taken_lined (system_of r) known e.left p.sorted.set.items p.rounds.items (taken_by (system_of r) known p.sorted.set.items p.rounds.items e.left e.lead))

pub inside_fall-requires-clause-enough : goal.inside_fall-requires-clause-enough
inside_fall-requires-clause-enough c =
    let r = c.args.ranking.now in
    let a = r.enough c.args.component in
    let d = ap length (c.deref-then-place_in-len.ensures.value ∙ c.part-part.ensures.rounds) in
    omega (arith, a, d)

pub returns-then-place_in-len : goal.returns-then-place_in-len
returns-then-place_in-len c =
    let r = c.args.ranking.now in
    let k = c.args.number in
    let p = c.part-part.result.now in
    let t = c.if-place_in-len.true in
    let l = c.len.ensures in
    let o = p.sorted.set.ok in
    let e = c.place_in.ensures.is ∙ ap (λ z. place_in z k) c.deref.ensures.value in
    let stands = stands_if p.sorted.set.items k (omega (arith, t, l, o, e)) in
    inside_case r k c.args.component c.met_count-met.result p c.in_ok-fall.fall c.ranges.component.fits c.part-part.ensures.part c.part-part.ensures.rounds c.requires.inside stands c.met_count-met.ensures
    (subst (λ rs. IsInsideFall rs k c.met_count-met.result r.count c.in_ok-fall.fall) c.deref-then-place_in-len.ensures.value c.in_ok-fall.ensures)

pub refutation_of-requires : goal.refutation_of-requires
refutation_of-requires c =
    let r = c.args.ranking.now in
    let k = c.args.number in
    let s = c.part-part.result.now.sorted in
    let f = c.if-place_in-len.false in
    let l = c.len.ensures in
    let o = s.set.ok in
    let p = c.place_in.ensures.is ∙ ap (λ z. place_in z k) c.deref.ensures.value in
    let e = stands_empty (system_of r) r.known.now.pieces.items r.numbers.now c.args.component k s.set.items s.empty.items (lists s.refutations.items) c.part-part.ensures.part.sorted c.requires.number c.requires.inside (λ q. absurd (omega (arith, f, l, o, p, q))) in
    let a = e.0 in
    let b = c.place_in-place.ensures.is ∙ ap (λ z. place_in z k) c.deref-2.ensures.value in
    let m = length-map s.refutations.items (λ v. v.items) in
    omega (arith, a, b, m)

pub returns : goal.returns
returns c =
    let r = c.args.ranking.now in
    let k = c.args.number in
    let p = c.part-part.result.now in
    let f = c.if-place_in-len.false in
    let l = c.len.ensures in
    let o = p.sorted.set.ok in
    let e = c.place_in.ensures.is ∙ ap (λ z. place_in z k) c.deref.ensures.value in
    let b = c.place_in-place.ensures.is ∙ ap (λ z. place_in z k) c.deref-2.ensures.value in
    refuted_case r k c.args.component p c.in_ok-multipliers.multipliers.items c.part-part.ensures.part c.requires.number c.requires.inside (λ q. absurd (omega (arith, f, l, o, e, q)))
    (c.in_ok-multipliers.ensures ∙ ap (refutation_at p.sorted) b)

use Rattle.std.proofs.Common.{◌∙◌, ◌+◌, ◌++◌, ◌∷◌, [], length, All, ap, sym, subst, arith, pos}
use Rattle.std.proofs.lemmas.List.{length-map}
use Rattle.tv_linear.specs.Arithmetic.{zeros}
use Rattle.tv_cases.specs.Systems.{cases_of}
use Rattle.tv_rank.specs.Given.{lists}
use Rattle.tv_lexrank.specs.Covering.{IsLined}
use Rattle.tv_lexrank.specs.Rounds.{falls_in, lines_of, place_in}
use Rattle.tv_lexrank.specs.Sorting.{refutation_at}
use Rattle.tv_lexrank.specs.Steps.{IsFall}
use Rattle.tv_lexrank.proofs.StepLemmas.{chain_lined, stands_if, stands_empty}
use Rattle.tv_lexrank.proofs.ShowLemmas.{inside_shown, refuted_shown}
use Rattle.tv_lexrank.proofs.shown.inside_shown.Goals as goal

pub inside_fall-requires-clause-lined : goal.inside_fall-requires-clause-lined
inside_fall-requires-clause-lined c =
    let r = c.args.ranking.now in
    let p = c.part-part.result.now in
    subst (All IsLined) (sym c.deref-then-place_in-len.ensures.value) (chain_lined (cases_of r.about.now) r.known.now.pieces.items p.sorted.set.items p.rounds.items c.part-part.ensures.part.chain)

pub inside_fall-requires-clause-bounded : goal.inside_fall-requires-clause-bounded
inside_fall-requires-clause-bounded c =
    let r = c.args.ranking.now in
    let a = r.enough c.args.component in
    let b = r.bounded in
    let d = ap length (c.deref-then-place_in-len.ensures.value ∙ c.part-part.ensures.rounds) in
    omega (arith, a, b, d)

pub returns-then-place_in-len : goal.returns-then-place_in-len
returns-then-place_in-len c =
    let r = c.args.ranking.now in
    let k = c.args.number in
    let p = c.part-part.result.now in
    let t = c.if-place_in-len.true in
    let l = c.len.ensures in
    let o = p.sorted.set.ok in
    let e = c.place_in.ensures.is ∙ ap (λ z. place_in z k) c.deref.ensures.value in
    let stands = stands_if p.sorted.set.items k (omega (arith, t, l, o, e)) in
    inside_shown r k c.args.component c.met_count.result p c.in_ok-fall.fall c.ranges.component.fits c.part-part.ensures.part c.part-part.ensures.rounds c.requires.inside stands c.met_count.ensures
    (subst (λ rs. IsFall (falls_in k rs + 2) ((zeros c.met_count.result ++ pos 1 ∷ []) ∷ lines_of k rs) c.in_ok-fall.fall) c.deref-then-place_in-len.ensures.value c.in_ok-fall.ensures)

pub refutation_of-requires : goal.refutation_of-requires
refutation_of-requires c =
    let r = c.args.ranking.now in
    let k = c.args.number in
    let s = c.part-part.result.now.sorted in
    let f = c.if-place_in-len.false in
    let l = c.len.ensures in
    let o = s.set.ok in
    let p = c.place_in.ensures.is ∙ ap (λ z. place_in z k) c.deref.ensures.value in
    let e = stands_empty (cases_of r.about.now) r.known.now.pieces.items r.numbers.now c.args.component k s.set.items s.empty.items (lists s.refutations.items) c.part-part.ensures.part.sorted c.requires.number c.requires.inside (λ q. absurd (omega (arith, f, l, o, p, q))) in
    let a = e.0 in
    let b = c.place_in-place.ensures.is ∙ ap (λ z. place_in z k) c.deref-2.ensures.value in
    let m = length-map s.refutations.items (λ v. v.items) in
    omega (arith, a, b, m)

pub returns : goal.returns
returns c =
    let r = c.args.ranking.now in
    let k = c.args.number in
    let p = c.part-part.result.now in
    let f = c.if-place_in-len.false in
    let l = c.len.ensures in
    let o = p.sorted.set.ok in
    let e = c.place_in.ensures.is ∙ ap (λ z. place_in z k) c.deref.ensures.value in
    let b = c.place_in-place.ensures.is ∙ ap (λ z. place_in z k) c.deref-2.ensures.value in
    refuted_shown r k c.args.component p c.in_ok-multipliers.multipliers.items c.part-part.ensures.part c.requires.number c.requires.inside (λ q. absurd (omega (arith, f, l, o, e, q)))
    (c.in_ok-multipliers.ensures ∙ ap (refutation_at p.sorted) b)

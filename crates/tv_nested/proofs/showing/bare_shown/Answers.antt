use Rattle.std.proofs.Common.{◌∙◌, ◌+◌, ◌++◌, ◌∷◌, [], length, All, ap, sym, subst, arith, pos}
use Rattle.std.proofs.lemmas.List.{length-map}
use Rattle.tv_linear.specs.Arithmetic.{zeros}
use Rattle.tv_cases.specs.Systems.{cases_of}
use Rattle.tv_lexrank.specs.Covering.{IsLined}
use Rattle.tv_lexrank.specs.Rounds.{falls_in, lines_of, place_in}
use Rattle.tv_lexrank.specs.Sorting.{refutation_at}
use Rattle.tv_lexrank.specs.Steps.{IsFall}
use Rattle.tv_lexrank.proofs.StepLemmas.{stands_if}
use Rattle.tv_nested.proofs.CaseLemmas.{round_shown, empty_there, refuted_shown}
use Rattle.tv_nested.proofs.RankingLemmas.{rounds_few}
use Rattle.tv_nested.proofs.TakenLemmas.{lead_down, down_lined}
use Rattle.tv_nested.proofs.showing.bare_shown.Goals as goal

pub round_fall-requires-clause-lined : goal.round_fall-requires-clause-lined
round_fall-requires-clause-lined c =
    let h = c.requires in
    let p = c.args.part.now in
    subst (All IsLined) (sym c.deref-then-place_in-len.ensures.value)
    (down_lined (cases_of c.args.about.now) c.requires.known p.sorted.set.items p.rounds.items p.left.items (lead_down (cases_of c.args.about.now) c.requires.known p.sorted.set.items p.rounds.items p.left.items h.is_part.lead))

pub round_fall-requires-clause-bounded : goal.round_fall-requires-clause-bounded
round_fall-requires-clause-bounded c =
    let h = c.requires in
    let b = rounds_few (cases_of c.args.about.now) c.requires.known c.requires.numbers c.args.component c.args.part.now c.args.about.now.are_cases.few_cases h.is_part in
    let e = ap length c.deref-then-place_in-len.ensures.value in
    omega (arith, b, e)

pub returns-then-place_in-len : goal.returns-then-place_in-len
returns-then-place_in-len c =
    let p = c.args.part.now in
    let k = c.args.number in
    let t = c.if-place_in-len.true in
    let l = c.len.ensures in
    let o = p.sorted.set.ok in
    let e = c.place_in.ensures.is ∙ ap (λ z. place_in z c.args.number) c.deref.ensures.value in
    let stands = stands_if p.sorted.set.items k (omega (arith, t, l, o, e)) in
    round_shown (cases_of c.args.about.now) c.args.component c.args.part.now c.args.number c.requires c.ranges.component.fits c.guard_count.result c.in_ok-fall.fall stands c.guard_count.ensures
    (subst (λ rs. IsFall (falls_in c.args.number rs + 2) ((zeros c.guard_count.result ++ pos 1 ∷ []) ∷ lines_of c.args.number rs) c.in_ok-fall.fall) c.deref-then-place_in-len.ensures.value c.in_ok-fall.ensures)

pub refutation_of-requires : goal.refutation_of-requires
refutation_of-requires c =
    let p = c.args.part.now in
    let k = c.args.number in
    let f = c.if-place_in-len.false in
    let l = c.len.ensures in
    let o = p.sorted.set.ok in
    let e = c.place_in.ensures.is ∙ ap (λ z. place_in z c.args.number) c.deref.ensures.value in
    let a = empty_there (cases_of c.args.about.now) c.args.component c.args.part.now c.args.number c.requires c.ranges.component.fits (λ q. absurd (omega (arith, f, l, o, e, q))) in
    let b = c.place_in-place.ensures.is ∙ ap (λ z. place_in z c.args.number) c.deref-2.ensures.value in
    let m = length-map p.sorted.refutations.items (λ v. v.items) in
    omega (arith, a, b, m)

pub returns : goal.returns
returns c =
    let p = c.args.part.now in
    let k = c.args.number in
    let f = c.if-place_in-len.false in
    let l = c.len.ensures in
    let o = p.sorted.set.ok in
    let e = c.place_in.ensures.is ∙ ap (λ z. place_in z c.args.number) c.deref.ensures.value in
    let b = c.place_in-place.ensures.is ∙ ap (λ z. place_in z c.args.number) c.deref-2.ensures.value in
    refuted_shown (cases_of c.args.about.now) c.args.component c.args.part.now c.args.number c.requires c.ranges.component.fits c.in_ok-multipliers.multipliers (λ q. absurd (omega (arith, f, l, o, e, q)))
    (c.in_ok-multipliers.ensures ∙ ap (refutation_at p.sorted) b)

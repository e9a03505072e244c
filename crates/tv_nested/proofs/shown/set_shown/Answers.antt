use Rattle.std.proofs.Common.{◌≡◌, ◌∙◌, ◌<◌, length, get_or, arith, ap, sym, subst}
use Rattle.tv_cases.specs.Systems.{cases_of}
use Rattle.tv_lexrank.specs.declared.shown.CaseShown.TheVariants.{Untaken}
use Rattle.tv_lexrank.proofs.SortLemmas.{few_below}
use Rattle.tv_rank.specs.Ways.{case_at}
use Rattle.tv_nested.specs.Parts.{ShowsFrom}
use Rattle.tv_nested.specs.SetFalls.{IsSetFall}
use Rattle.tv_nested.proofs.SetLemmas.{falls_from, untaken_from, lines_there}
use Rattle.tv_nested.proofs.TakenLemmas.{lead_down, numbered_left, down_length, down_lined}
use Rattle.tv_nested.proofs.shown.set_shown.Goals as goal

pub returns-then-piece-len : goal.returns-then-piece-len
returns-then-piece-len c =
    let about = cases_of c.args.about.now in
    let p = c.args.part.now in
    let r = c.requires.part in
    let t = c.if-piece-len.true in
    let e = c.len.ensures in
    let o = p.family.terms.ok in
    let same : length p.family.terms.items ≡ c.args.piece = omega (arith, t, e, o) in
    subst (λ q. ShowsFrom about c.args.component p (get_or p.left.items c.args.place 0) q (Untaken c.in_ok-line.line)) same
    (untaken_from about r.0 r.1 c.args.component p r.2 r.3 c.args.place c.requires.place c.ranges.component.fits c.in_ok-line.line c.in_ok-line.ensures)

pub end_line-requires : goal.end_line-requires
end_line-requires c =
    let r = c.requires.part in
    lines_there (cases_of c.args.about.now) r.0 r.1 c.args.component c.args.part.now r.2 r.3 c.args.place c.requires.place c.ranges.component.fits (length c.args.part.now.family.terms.items) (omega arith)

pub case_of-requires : goal.case_of-requires
case_of-requires c =
    let about = cases_of c.args.about.now in
    let r = c.requires.part in
    let p = c.args.part.now in
    let n = c.number_at-number.ensures ∙ ap (λ z. get_or z c.args.place 0) c.deref.ensures.value in
    subst (λ z. z < length (cases_of c.args.about.now).cases) (sym n) (numbered_left about r.0 (length about.cases) p.sorted.set.items p.rounds.items p.left.items r.3.lead r.3.sorted.numbered c.args.place c.requires.place)

pub set_fall-requires-clause-lined : goal.set_fall-requires-clause-lined
set_fall-requires-clause-lined c =
    let r = c.requires.part in
    let p = c.args.part.now in
    down_lined (cases_of c.args.about.now) r.0 p.sorted.set.items p.rounds.items p.left.items (lead_down (cases_of c.args.about.now) r.0 p.sorted.set.items p.rounds.items p.left.items r.3.lead)

pub set_fall-requires-clause-few : goal.set_fall-requires-clause-few
set_fall-requires-clause-few c =
    let about = cases_of c.args.about.now in
    let r = c.requires.part in
    let p = c.args.part.now in
    let a = down_length about r.0 p.sorted.set.items p.rounds.items p.left.items (lead_down about r.0 p.sorted.set.items p.rounds.items p.left.items r.3.lead) in
    let b = few_below (length about.cases) p.sorted.set.items r.3.sorted.ascends r.3.sorted.numbered in
    let most = c.args.about.now.are_cases.few_cases in
    omega (arith, a, b, most)

pub set_fall-requires-clause-lines : goal.set_fall-requires-clause-lines
set_fall-requires-clause-lines c =
    let r = c.requires.part in
    lines_there (cases_of c.args.about.now) r.0 r.1 c.args.component c.args.part.now r.2 r.3 c.args.place c.requires.place c.ranges.component.fits c.args.piece c.requires.piece

pub returns : goal.returns
returns c =
    let about = cases_of c.args.about.now in
    let p = c.args.part.now in
    let r = c.requires.part in
    let t = c.if-piece-len.false in
    let e = c.len.ensures in
    let o = p.family.terms.ok in
    let l = c.requires.piece in
    let inside : c.args.piece < length p.family.terms.items = omega (arith, t, e, o, l) in
    let n = c.number_at-number.ensures ∙ ap (λ z. get_or z c.args.place 0) c.deref.ensures.value in
    let met = ap length (c.deref-guards.ensures.value ∙ ap (λ z. z.guards) c.case_of.ensures.is) ∙ ap (λ z. length (case_at (cases_of c.args.about.now).cases z).guards) n in
    let fall = subst (λ z. IsSetFall c.args.part.now c.args.place c.args.piece z (length c.deref-guards.result.now) c.in_ok-fall.fall) n c.in_ok-fall.ensures in
    falls_from about r.0 r.1 c.args.component p r.2 r.3 c.args.place c.requires.place c.ranges.component.fits c.args.piece inside (length c.deref-guards.result.now) c.in_ok-fall.fall met fall

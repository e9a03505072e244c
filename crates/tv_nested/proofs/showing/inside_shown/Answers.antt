use Rattle.std.proofs.Common.{◌∙◌, length, get_or, ap, subst, arith}
use Rattle.tv_cases.specs.Systems.{cases_of}
use Rattle.tv_lexrank.specs.Rounds.{place_in}
use Rattle.tv_nested.specs.Parts.{ShowsFrom}
use Rattle.tv_nested.specs.Ranks.{signs_at}
use Rattle.tv_nested.specs.Signs.{sign_rows}
use Rattle.tv_nested.proofs.CaseLemmas.{place_found, terms_many, set_case, bare_case}
use Rattle.tv_nested.proofs.ComponentLemmas.{part_is}
use Rattle.tv_nested.proofs.showing.inside_shown.Goals as goal

pub set_shown-requires-clause-part : goal.set_shown-requires-clause-part
set_shown-requires-clause-part c =
    let r = c.args.ranking.now in
    let h = c.requires.ranked.1 in
    (h.0, r.numbers.now, h.1, part_is (cases_of r.about.now) h.0 r.numbers.now c.args.component r.parts.now c.part-part.result.now h.2 c.requires.component c.part-part.ensures.is)

pub set_shown-requires-clause-piece : goal.set_shown-requires-clause-piece
set_shown-requires-clause-piece c =
    let e = terms_many c.args.ranking.now c.args.number c.args.component c.part-part.result.now c.requires.inside c.part-part.ensures.tuple in
    let h = c.requires.piece in
    omega (arith, e, h)

pub returns-then-place-len : goal.returns-then-place-len
returns-then-place-len c =
    let r = c.args.ranking.now in
    let p = c.part-part.result.now in
    let t = c.if-place-len.true in
    let l = c.len.ensures in
    let o = p.left.ok in
    let e = c.place_in-place.ensures.is ∙ ap (λ z. place_in z c.args.number) c.deref.ensures.value in
    let there = ap (λ z. get_or p.left.items z 0) e ∙ place_found p.left.items c.args.number (omega (arith, t, l, o, e)) in
    set_case c.args.ranking.now c.args.number c.args.piece c.args.component c.part-part.result.now c.in_ok-shown.shown c.requires.inside c.part-part.ensures.rounds c.part-part.ensures.tuple
    (subst (λ z. ShowsFrom (cases_of r.about.now) c.args.component c.part-part.result.now z c.args.piece c.in_ok-shown.shown) there c.in_ok-shown.ensures)

pub bare_shown-requires : goal.bare_shown-requires
bare_shown-requires c =
    let r = c.args.ranking.now in
    let p = c.part-part.result.now in
    let h = c.requires.ranked.1 in
    let f = c.if-place-len.false in
    let l = c.len.ensures in
    let o = p.left.ok in
    let e = c.place_in-place.ensures.is ∙ ap (λ z. place_in z c.args.number) c.deref.ensures.value in
    record {
      known = h.0;
      numbers = r.numbers.now;
      bare = h.1;
      is_part = part_is (cases_of r.about.now) h.0 r.numbers.now c.args.component r.parts.now c.part-part.result.now h.2 c.requires.component c.part-part.ensures.is;
      within = c.requires.number;
      inside = c.requires.inside;
      out = λ q. absurd (omega (arith, f, l, o, e, q));
    }

pub returns : goal.returns
returns c =
    let r = c.args.ranking.now in
    let rows = c.row_count-rows.ensures.is ∙ ap (λ z. length (sign_rows (signs_at c.args.ranking.now z.from) c.args.piece)) c.case_of.ensures.is in
    bare_case c.args.ranking.now c.args.number c.args.piece c.args.component c.row_count-rows.result c.part-part.result.now c.in_ok-bare.bare c.in_ok-shown-2.shown c.requires.inside c.part-part.ensures.rounds rows c.in_ok-bare.ensures c.in_ok-shown-2.ensures

use Rattle.std.proofs.Common.{◌≡◌, ◌∙◌, length, map, sym, arith}
use Rattle.tv_cases.specs.LinearCases.{from_of, leaving}
use Rattle.tv_cases.specs.Systems.{cases_of}
use Rattle.tv_places.proofs.PlaceLemmas.{places_counted}
use Rattle.tv_lexrank.proofs.StandLemmas.{leaving_at}
use Rattle.tv_nested.proofs.OfferedLemmas.{all_steps, steps_more}
use Rattle.tv_nested.proofs.offered.push_steps.Goals as goal

pub step_proof-requires-clause-number : goal.step_proof-requires-clause-number
step_proof-requires-clause-number c =
    let cases = (cases_of c.args.ranking.now.about.now).cases in
    (leaving_at cases c.args.location c.places.place c.in-Some.number (sym (c.place_at.ensures (map from_of cases) c.requires.stands) ∙ c.in-Some.is)).within

pub step_proof-requires-clause-piece : goal.step_proof-requires-clause-piece
step_proof-requires-clause-piece c =
    let cases = (cases_of c.args.ranking.now.about.now).cases in
    let at = leaving_at cases c.args.location c.places.place c.in-Some.number (sym (c.place_at.ensures (map from_of cases) c.requires.stands) ∙ c.in-Some.is) in
    rw at.leaves c.requires.piece

pub places-preserved : goal.places-preserved
places-preserved c =
    let r = c.args.ranking.now in
    let cases = (cases_of r.about.now).cases in
    let at = leaving_at cases c.args.location c.places.place c.in-Some.number (sym (c.place_at.ensures (map from_of cases) c.requires.stands) ∙ c.in-Some.is) in
    steps_more r c.args.location c.args.piece c.places.place c.in-Some.number c.in-Ok.proof _ _ _ at c.in-Ok.ensures.shows c.places.invariant c.in_ok-push_item-in-Ok.ensures

pub returns-clause-shown : goal.returns-clause-shown
returns-clause-shown c =
    let r = c.args.ranking.now in
    let cases = (cases_of r.about.now).cases in
    let l = c.args.location in
    let t = c.places-test.false in
    let e = c.places.auto.place-end in
    let n = c.count_of-place-end.ensures (map from_of cases) c.requires.stands in
    let m = places_counted from_of cases l in
    let all : c.places.place ≡ length (leaving l cases) = omega (arith, t, e, n, m) in
    all_steps r l c.args.piece c.places.place _ _ all c.places.invariant

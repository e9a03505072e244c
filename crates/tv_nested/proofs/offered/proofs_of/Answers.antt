use Rattle.std.proofs.Common.{◌≡◌, ◌∙◌, length, map, ap, sym, subst, arith}
use Rattle.std.proofs.lemmas.List.{length-map}
use Rattle.tv_cases.specs.LinearCases.{from_of}
use Rattle.tv_cases.specs.Systems.{cases_of}
use Rattle.tv_places.specs.Places.{IsIndexOf}
use Rattle.tv_nested.specs.NodePieces.{node_pieces}
use Rattle.tv_nested.specs.NodeProofs.{Offer}
use Rattle.tv_nested.proofs.OfferedLemmas.{locations_more}
use Rattle.tv_nested.proofs.offered.proofs_of.Goals as goal

pub index-requires : goal.index-requires
index-requires c =
    let about = cases_of c.args.ranking.now.about.now in
    let e = ap length (c.deref.ensures.value ∙ c.in_ok-starts.ensures ∙ ap (map from_of) c.list.ensures.same) in
    let m = length-map about.cases from_of in
    let bounded = c.list.ensures.limits.few_cases in
    omega (arith, e, m, bounded)

pub push_proofs-requires-clause-stands : goal.push_proofs-requires-clause-stands
push_proofs-requires-clause-stands c =
    let e = c.deref.ensures.value ∙ c.in_ok-starts.ensures ∙ ap (map from_of) c.list.ensures.same in
    subst (λ z. IsIndexOf z c.deref-in-locations.result.now) e (subst (λ z. IsIndexOf c.deref.result.now z) (sym c.deref-in-locations.ensures.value) c.in_ok-stands.ensures)

pub locations-preserved : goal.locations-preserved
locations-preserved c = locations_more c.args.ranking.now c.locations.location c.locations.proofs.items _ c.locations.invariant c.in-Ok.ensures.offered

pub returns-clause-offered : goal.returns-clause-offered
returns-clause-offered c =
    let t = c.locations-test.false in
    let e = c.locations.auto.location-end in
    let s = c.locations-location-end.ensures.same in
    let all : c.locations.location ≡ (cases_of c.args.ranking.now.about.now).locations = omega (arith, t, e, s) in
    subst (λ n. Offer c.args.ranking.now (node_pieces c.args.ranking.now n) c.locations.proofs.items) all c.locations.invariant

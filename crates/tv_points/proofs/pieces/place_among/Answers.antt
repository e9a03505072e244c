use Rattle.std.proofs.Common.{◌≡◌, ◌==◌, ◌∙◌, length, take, ap, sym, subst, refl, Some, slice_get, arith}
use Rattle.std.proofs.lemmas.Bool.{eq-eqb}
use Rattle.tv_cert.specs.Pieces.{place_of, pieces_at}
use Rattle.tv_points.proofs.PlaceLemmas.{got, got_one, among}
use Rattle.tv_points.proofs.pieces.place_among.Goals as goal
use Rattle.tv_cert.proofs.RoomLemmas.{few_left}

pub overflow_cast-result : goal.overflow_cast-result
overflow_cast-result c =
    let e = c.count_at.ensures in
    let s = few_left (λ q. place_of q == c.location-location.result) c.split_at.result.0.now in
    let l = c.split_at.ensures.front_len in
    omega (arith, e, s, l)

pub returns : goal.returns
returns c p e =
    let ps = c.args.pieces.now in
    let i = c.args.i in
    let read = got ps i c.index-pieces-i.result c.requires.inside c.index-pieces-i.is in
    let same : c.location-location.result ≡ place_of p = c.location-location.ensures ∙ ap place_of (got_one ps i c.index-pieces-i.result p read e) in
    let count : c.count_at.result ≡ length (pieces_at (take i ps) (place_of p)) = c.count_at.ensures ∙ (λ j. length (pieces_at (c.split_at.ensures.front j) (same j))) in
    subst (λ k. slice_get (pieces_at ps (place_of p)) k ≡ Some p) (sym count) (among (λ q. place_of q == place_of p) ps i p e (eq-eqb (place_of p) (place_of p) refl))

use Rattle.std.proofs.Common.{◌≡◌, ◌∙◌, slice_get, MatchOption, None, Some, ap, sym, subst}
use Rattle.tv_places.proofs.PlaceLemmas.{place_told, place_none}
use Rattle.tv_cert.specs.Pieces.{place_of, pieces_at}
use Rattle.tv_cert.proofs.IndexedLemmas.{index_used, got_at}
use Rattle.tv_cert.proofs.pieces.Pieces.at.Goals as goal

pub returns-in-None : goal.returns-in-None
returns-in-None c =
    let list = c.self.inside.list.items in
    let told = c.in-None.ensures _ (index_used list c.self.inside.index.items c.deref-2.result.now _ c.deref-2.ensures.value c.deref-2.ensures.len c.if-is_empty.ensures c.self.invariant) in
    ap (λ ps. slice_get (pieces_at ps c.args.location) c.args.k) (sym c.self.view_is) ∙ place_none place_of list c.args.location c.args.k (sym told)

pub returns-in-Some : goal.returns-in-Some
returns-in-Some c =
    let list = c.self.inside.list.items in
    let told = c.in-Some.ensures _ (index_used list c.self.inside.index.items c.deref-2.result.now _ c.deref-2.ensures.value c.deref-2.ensures.len c.if-is_empty.ensures c.self.invariant) in
    let same = ap (λ ps. slice_get ps c.in-Some.place) c.deref-in-Some.ensures.value ∙ place_told place_of list c.args.location c.args.k c.in-Some.place (sym told) ∙ ap (λ ps. slice_get (pieces_at ps c.args.location) c.args.k) c.self.view_is in
    subst (λ o. MatchOption c.get.result (o ≡ None) (λ q. o ≡ Some q.now)) same (got_at c.deref-in-Some.result.now c.in-Some.place c.get.result c.get.ensures.lookup.0 c.get.ensures.lookup.1)

use Rattle.std.proofs.Common.{◌∙◌, length, ap}
use Rattle.tv_places.proofs.PlaceLemmas.{places_counted}
use Rattle.tv_cert.specs.Pieces.{place_of, pieces_at}
use Rattle.tv_cert.proofs.IndexedLemmas.{index_used}
use Rattle.tv_cert.proofs.pieces.Pieces.count_at.Goals as goal

pub returns : goal.returns
returns c =
    let list = c.self.inside.list.items in
    c.count_of.ensures _ (index_used list c.self.inside.index.items c.deref-2.result.now _ c.deref-2.ensures.value c.deref-2.ensures.len c.if-is_empty.ensures c.self.invariant)
    ∙ places_counted place_of list c.args.location
    ∙ ap (λ ps. length (pieces_at ps c.args.location)) c.self.view_is

use Rattle.std.proofs.Common.{◌≡◌, ◌∙◌, ◌<◌, [], sym, subst}
use Rattle.std.proofs.lemmas.List.Elements.{All-nil}
use Rattle.tv_linear.specs.declared.region.Piece.{Piece}
use Rattle.tv_cases.specs.Systems.{cases_of}
use Rattle.tv_cert.specs.Pieces.{place_of, rows_of}
use Rattle.tv_region.specs.Regions.{IsPieceOf}
use Rattle.tv_pre.specs.Pieces.{ArePieces}
use Rattle.tv_pre.proofs.RankedEndLemmas.{marked_more, marked_none, marked_whole, over_more}
use Rattle.tv_pre.proofs.ranked_end.bare_pieces.Goals as goal
use Rattle.tv_linear.proofs.ListLaws.{all_at}

pub pieces-init : goal.pieces-init
pieces-init c = record {
  marked = marked_none c.args.pieces.now c.new-all.result.items c.new-all.ensures.items;
  over =
      let about = cases_of c.args.about.now in
      subst (ArePieces about) (sym c.new-all.ensures.items) (All-nil (IsPieceOf about.variables about.locations));
}

pub pieces-preserved : goal.pieces-preserved
pieces-preserved c =
    let about = cases_of c.args.about.now in
    let ps = c.args.pieces.now in
    let i = c.pieces.piece-index in
    let p = c.piece-item.result in
    let old = c.pieces.all.items in
    let new = c.push_item.new.items.items in
    let q : Piece = record { location = c.location-location.result; poly = record { columns = c.variables-columns.result; rows = c.new-rows.result } } in
    let place = all_at (λ p. place_of p < about.locations) ps i p c.requires.places c.pieces-test.true c.piece-item.is in
    let bare = all_at (λ p. rows_of p ≡ []) ps i p c.requires.bare c.pieces-test.true c.piece-item.is in
    record {
      marked = marked_more ps i p old new q c.pieces-test.true c.piece-item.is c.in_ok-push_item.ensures (sym c.location-location.ensures, bare ∙ sym c.new-rows.ensures.items) c.pieces.invariant.marked;
      over = over_more about old new q c.in_ok-push_item.ensures (subst (λ l. l < about.locations) (sym c.location-location.ensures) place) c.variables-columns.ensures.same c.new-rows.ensures.items c.pieces.invariant.over;
    }

pub returns-clause-marked : goal.returns-clause-marked
returns-clause-marked c = marked_whole c.args.pieces.now c.pieces.piece-index c.pieces.all.items c.pieces-test.false c.pieces.invariant.marked

pub returns-clause-over : goal.returns-clause-over
returns-clause-over c = c.pieces.invariant.over

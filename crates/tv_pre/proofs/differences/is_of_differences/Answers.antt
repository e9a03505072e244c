use Rattle.std.proofs.Common.{All, ◌∙◌, sym, subst}
use Rattle.tv_region.specs.Met.{InSome}
use Rattle.tv_region.specs.Regions.{lists_at}
use Rattle.tv_linear.specs.declared.region.Piece.{Piece}
use Rattle.tv_region.specs.Differences.{IsDifference}
use Rattle.tv_pre.proofs.DifferenceLemmas.{all_rows, piece_more, piece_row, not_false}
use Rattle.tv_pre.proofs.differences.is_of_differences.Goals as goal
use Rattle.tv_linear.proofs.ListLaws.{take_past}
use Rattle.tv_region.proofs.MetLemmas.{all_has}

pub pieces-preserved : goal.pieces-preserved
pieces-preserved c =
    piece_more c.deref-piece-items.result.now c.pieces.piece-index c.piece-item.result c.pieces-test.true c.piece-item.is c.pieces.invariant
    (subst (All IsDifference) c.deref.ensures.value (c.are_differences.ensures.found c.if-not-are_differences.false))

pub returns-clause-found : goal.returns-clause-found
returns-clause-found c = λ t.
    let whole = take_past c.deref-piece-items.result.now c.pieces.piece-index c.pieces-test.false ∙ c.deref-piece-items.ensures.value in
    all_rows c.args.region.now (subst (All (λ (p : Piece). All IsDifference p.poly.rows.items)) whole c.pieces.invariant)

pub returns-then-not-are_differences-clause-all : goal.returns-then-not-are_differences-clause-all
returns-then-not-are_differences-clause-all c = λ h.
    let piece = c.piece-item.result in
    let items = c.deref-piece-items.result.now in
    let rows = all_has IsDifference piece.poly.rows.items (λ r m. h r (piece.location, subst (λ ps. InSome (lists_at piece.location ps) r) c.deref-piece-items.ensures.value (piece_row items c.pieces.piece-index piece c.pieces-test.true c.piece-item.is r m))) in
    not_false _ (c.are_differences.ensures.all (subst (All IsDifference) (sym c.deref.ensures.value) rows)) c.if-not-are_differences.true

use Rattle.std.proofs.Common.{◌∷◌, [], ◌+◌, ◌∙◌, length, length-append, ap, sym, subst}
use Rattle.tv_invariant.specs.Pieces.{IsPieceOf, AreInPlace}
use Rattle.tv_invariant.proofs.PieceLemmas.{in_place_none, in_place_more}
use Rattle.tv_invariant.proofs.pieces.pieces_below.Goals as goal

pub locations-init : goal.locations-init
locations-init c =
    let list = c.args.list.now in
    record {
      counted = ap length c.in_ok-pieces.ensures.items;
      in_place = subst (AreInPlace c.args.variables list) (sym c.in_ok-pieces.ensures.items) (in_place_none c.args.variables list);
    }

pub locations-preserved : goal.locations-preserved
locations-preserved c =
    let list = c.args.list.now in
    let v = c.args.variables in
    let old = c.locations.pieces.items in
    let piece = c.in_ok-piece_at.field-0 in
    let e = c.in_ok-push_item.ensures in
    let many = c.locations.invariant.counted in
    record {
      counted = ap length e ∙ length-append old (piece ∷ []) ∙ ap (λ n. n + 1) many;
      in_place = in_place_more v list old c.push_item.new.items.items piece c.locations.invariant.in_place (subst (λ l. IsPieceOf v list l piece) (sym many) c.in_ok-piece_at.ensures) e;
    }

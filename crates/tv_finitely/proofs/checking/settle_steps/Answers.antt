use Rattle.std.proofs.Common.{◌≡◌, length, slice_get, Some, arith, refl, ap, subst}
use Rattle.std.proofs.lemmas.Option.{slice_get_read}
use Rattle.tv_finitely.specs.Obligations.{piece_owes}
use Rattle.tv_finitely.specs.Splits.{split_of}
use Rattle.tv_finitely.proofs.Walking.{settled_next, settled_fails, settled_all}
use Rattle.tv_finitely.proofs.checking.settle_steps.Goals as goal

pub returns-in-Err : goal.returns-in-Err
returns-in-Err c =
    let list = c.list-list.result.now in
    let x = c.index-list-number.result in
    let at = subst (λ xs. slice_get xs c.pieces.number ≡ Some x) c.list-list.ensures (slice_get_read list (length list) c.pieces.number x refl c.pieces-test.true c.index-list-number.is) in
    settled_fails (piece_owes (split_of c.args.about.now) c.args.pieces.now) c.args.pieces.now c.args.proofs.now 0 c.pieces.number c.pieces.next c.pieces.invariant x at c.in-Err.failing c.in-Err.ensures

pub pieces-preserved : goal.pieces-preserved
pieces-preserved c =
    let list = c.list-list.result.now in
    let x = c.index-list-number.result in
    let at = subst (λ xs. slice_get xs c.pieces.number ≡ Some x) c.list-list.ensures (slice_get_read list (length list) c.pieces.number x refl c.pieces-test.true c.index-list-number.is) in
    settled_next (piece_owes (split_of c.args.about.now) c.args.pieces.now) c.args.pieces.now c.args.proofs.now 0 c.pieces.number c.pieces.next c.pieces.invariant x at c.in-Ok.after c.in-Ok.ensures.0 c.in-Ok.ensures.1 c.in-Ok.ensures.2

pub returns : goal.returns
returns c =
    let f = c.pieces-test.false in
    let e = ap length c.list-list.ensures in
    settled_all (piece_owes (split_of c.args.about.now) c.args.pieces.now) c.args.pieces.now c.args.proofs.now 0 c.pieces.number c.pieces.next (omega (arith, f, e)) c.pieces.invariant

use Rattle.std.proofs.Common.{◌≡◌, length, slice_get, Some, arith, refl, ap, subst}
use Rattle.std.proofs.lemmas.Option.{slice_get_read}
use Rattle.std.proofs.lemmas.Bool.{eq-eqb, eqb-true}
use Rattle.tv_finitely.specs.Obligations.{piece_owes, steps_owed}
use Rattle.tv_finitely.specs.Splits.{split_of}
use Rattle.tv_finitely.proofs.Walking.{shaped_next, shaped_fails, shaped_all, all_offered, none_offered}
use Rattle.tv_finitely.proofs.shape.proofs_have_shape.Goals as goal

pub returns-in-None : goal.returns-in-None
returns-in-None c =
    let s = split_of c.args.about.now in
    let list = c.list-list.result.now in
    let x = c.index-list-number.result in
    let at = subst (λ xs. slice_get xs c.pieces.number ≡ Some x) c.list-list.ensures (slice_get_read list (length list) c.pieces.number x refl c.pieces-test.true c.index-list-number.is) in
    let fails = shaped_fails (piece_owes s c.args.pieces.now) c.args.pieces.now c.args.proofs.now 0 c.pieces.number c.pieces.next c.pieces.invariant x at c.in-None.ensures in
    (λ t. absurd (let k : ⊥ = cc in k), λ all. absurd (none_offered (steps_owed s c.args.pieces.now) c.args.proofs.now fails all))

pub pieces-preserved : goal.pieces-preserved
pieces-preserved c =
    let list = c.list-list.result.now in
    let x = c.index-list-number.result in
    let at = subst (λ xs. slice_get xs c.pieces.number ≡ Some x) c.list-list.ensures (slice_get_read list (length list) c.pieces.number x refl c.pieces-test.true c.index-list-number.is) in
    shaped_next (piece_owes (split_of c.args.about.now) c.args.pieces.now) c.args.pieces.now c.args.proofs.now 0 c.pieces.number c.pieces.next c.pieces.invariant x at c.in-Some.after c.in-Some.ensures

pub returns : goal.returns
returns c =
    let s = split_of c.args.about.now in
    let f = c.pieces-test.false in
    let e = ap length c.list-list.ensures in
    let all = shaped_all (piece_owes s c.args.pieces.now) c.args.pieces.now c.args.proofs.now 0 c.pieces.number c.pieces.next (omega (arith, f, e)) c.pieces.invariant in
    let w = all_offered (steps_owed s c.args.pieces.now) c.args.proofs.now c.pieces.next all in
    (λ t. w.0 (eqb-true c.pieces.next (length c.args.proofs.now) t), λ h. eq-eqb c.pieces.next (length c.args.proofs.now) (w.1 h))

use Rattle.std.proofs.Common.{◌≡◌, ◌∙◌, ◌+◌, length, ap, subst, arith}
use Rattle.tv_nested.specs.Ranks.{signs_at}
use Rattle.tv_nested.specs.SignFaults.{RefusesSigns}
use Rattle.tv_nested.proofs.PieceLemmas.{piece_made, none_pushed, pieces_pushed, pieces_ended}
use Rattle.tv_nested.proofs.RefusalLemmas.{sign_refused}
use Rattle.tv_nested.proofs.pieces.push_pieces.Goals as goal

pub pieces-init : goal.pieces-init
pieces-init c = none_pushed c.args.pieces.now.items

pub pieces-preserved : goal.pieces-preserved
pieces-preserved c =
    let r = c.args.ranking.now in
    let made = piece_made c.args.ranking.now c.args.location c.variables-variables.result c.pieces.piece c.deref.result.now c.deref-in-pieces.result.now c.in-Ok.made c.variables-variables.ensures.same (c.deref.ensures.value ∙ c.in_ok-signs.ensures.is) (c.deref-in-pieces.ensures.value ∙ c.in_ok-ranks.ensures) c.in-Ok.ensures.is in
    pieces_pushed c.args.ranking.now c.args.location c.pieces.piece c.args.pieces.now.items c.pieces.pieces.items _ c.in-Ok.made c.pieces.invariant made c.in_ok-push_item-in-Ok.ensures

pub returns-clause-pieces : goal.returns-clause-pieces
returns-clause-pieces c =
    let t = c.pieces-test.false in
    let e = c.pieces.auto.piece-end in
    let l = c.len-piece-end.ensures in
    let n = ap length c.in_ok-signs.ensures.is in
    let all : c.pieces.piece ≡ length (signs_at c.args.ranking.now c.args.location) + 1 = omega (arith, t, e, l, n) in
    pieces_ended c.args.ranking.now c.args.location c.pieces.piece c.args.pieces.now.items c.pieces.pieces.items all c.pieces.invariant

pub returns-in-Err-clause-refusals : goal.returns-in-Err-clause-refusals
returns-in-Err-clause-refusals c =
    sign_refused c.args.ranking.now c.requires.ranked c.args.location c.requires.location c.in-Err.fault
    (subst (λ z. RefusesSigns z c.in-Err.fault) (c.deref.ensures.value ∙ c.in_ok-signs.ensures.is) c.in-Err.ensures.refusals)

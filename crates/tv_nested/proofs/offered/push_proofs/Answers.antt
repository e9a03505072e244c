use Rattle.std.proofs.Common.{◌≡◌, ◌+◌, length, arith}
use Rattle.tv_nested.specs.Ranks.{signs_at}
use Rattle.tv_nested.proofs.OfferedLemmas.{none_offered, pieces_more, all_pieces}
use Rattle.tv_nested.proofs.offered.push_proofs.Goals as goal

pub pieces-init : goal.pieces-init
pieces-init c = none_offered c.args.ranking.now c.args.proofs.now.items

pub pieces-preserved : goal.pieces-preserved
pieces-preserved c = pieces_more c.args.ranking.now c.args.location c.pieces.piece c.args.proofs.now.items c.pieces.proofs.items _ c.pieces.invariant c.in-Ok.ensures.shown

pub returns-clause-offered : goal.returns-clause-offered
returns-clause-offered c =
    let r = c.args.ranking.now in
    let t = c.pieces-test.false in
    let e = c.pieces.auto.piece-end in
    let n = c.sign_count-piece-end.ensures.is in
    let all : c.pieces.piece ≡ length (signs_at c.args.ranking.now c.args.location) + 1 = omega (arith, t, e, n) in
    all_pieces c.args.ranking.now c.args.location c.pieces.piece c.args.proofs.now.items c.pieces.proofs.items all c.pieces.invariant

use Rattle.std.proofs.Common.{◌≡◌, ◌-◌, ◌<◌, length, subst, sym, arith, Some, None}
use Rattle.std.specs.Prelude.{MatchOption}
use Rattle.tv_cert.specs.Pieces.{pieces_at}
use Rattle.tv_cert.specs.NodeViews.{pieces_list}
use Rattle.tv_cert.proofs.JoinedLemmas.{joined_here, joined_later}
use Rattle.tv_cert.proofs.pieces.+joined_piece_at.Goals as goal

pub returns-then-k-here : goal.returns-then-k-here
returns-then-k-here t c =
    let l = c.args.location in
    let bounded : c.args.k < length (pieces_at (pieces_list c.node-item.result) l) = subst (λ n. c.args.k < n) c.count_at-here.ensures c.if-k-here.true in
    let same = joined_here c.args.nodes.now c.node-item.result c.in-len1-up.len_at_least c.node-item.is l c.args.k bounded in
    subst (λ o. MatchOption c.at.result (o ≡ None) (λ q. o ≡ Some q.now)) (sym same) c.at.ensures

pub returns-else-k-here : goal.returns-else-k-here
returns-else-k-here t c =
    let l = c.args.location in
    let here = c.count_at-here.ensures in
    let same = joined_later c.args.nodes.now c.node-item.result c.in-len1-up.len_at_least c.node-item.is l c.args.k (c.args.k - c.count_at-here.result) (omega (arith, here, c.if-k-here.false)) in
    subst (λ o. MatchOption c.joined_piece_at.result (o ≡ None) (λ q. o ≡ Some q.now)) (sym same) c.joined_piece_at.ensures

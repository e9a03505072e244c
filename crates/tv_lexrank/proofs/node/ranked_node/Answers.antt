use Rattle.std.proofs.Common.{◌<◌, ◌^◌, arith, rules, subst}
use Rattle.tv_shape.specs.Made.{HasOwn}
use Rattle.tv_lexrank.proofs.RankedLemmas.{node_ranked, node_shown}
use Rattle.tv_lexrank.proofs.node.ranked_node.Goals as goal

pub returns-clause-ranked : goal.returns-clause-ranked
returns-clause-ranked c =
    let bounded : c.locations.result < 2 ^ 32 = search rules in
    let e = c.locations.ensures in
    let r = c.args.ranking.now in
    let list = c.in_ok-list.list.items in
    let own = subst (λ ks. HasOwn c.in_ok-node.node list r.count ks c.in-Ok.proofs.items) c.new.ensures.items c.in_ok-node.ensures in
    record {
      ends = node_ranked r c.requires.ranked c.in_ok-node.node list c.in-Ok.proofs.items c.in_ok-list.ensures own c.in-Ok.ensures.shown (omega (arith, bounded, e));
      each = node_shown r c.in_ok-node.node list c.in-Ok.proofs.items c.args.shown.now c.in_ok-list.ensures own c.requires.shown;
    }

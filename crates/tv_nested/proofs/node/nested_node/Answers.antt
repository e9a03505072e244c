use Rattle.std.proofs.Common.{subst}
use Rattle.tv_shape.specs.Made.{HasOwn}
use Rattle.tv_nested.proofs.FittedLemmas.{node_nested}
use Rattle.tv_nested.proofs.node.nested_node.Goals as goal

pub returns-clause-node : goal.returns-clause-node
returns-clause-node c =
    let r = c.args.ranking.now in
    let list = c.in-Ok.list.items in
    let own = subst (λ ks. HasOwn c.in_ok-node.node c.in-Ok.list.items c.args.ranking.now.count ks c.in-Ok-proofs_of.proofs.items) c.new.ensures.items c.in_ok-node.ensures in
    node_nested c.args.ranking.now c.requires c.in_ok-node.node c.in-Ok.list.items c.in-Ok-proofs_of.proofs.items c.in-Ok.ensures.pieces own c.in-Ok-proofs_of.ensures.offered

use Rattle.std.proofs.Common.{subst}
use Rattle.tv_cases.specs.Systems.{cases_of}
use Rattle.tv_shape.specs.Made.{HasOwn}
use Rattle.tv_recur.proofs.NodeLemmas.{endless_fitted}
use Rattle.tv_recur.proofs.node.endless_node.Goals as goal

pub returns : goal.returns
returns c =
    let own = subst (λ ks. HasOwn c.in_ok-node.node c.args.list.items 0 ks c.args.proofs.items) c.new.ensures.items c.in_ok-node.ensures in
    endless_fitted (cases_of c.args.about.now) c.in_ok-node.node c.args.list.items c.args.proofs.items own c.requires.bounded c.requires.shape c.requires.goes_on

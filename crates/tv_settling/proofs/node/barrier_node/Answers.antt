use Rattle.std.proofs.Common.{◌∷◌, ◌++◌, ◌∙◌, [], ap}
use Rattle.tv_settling.proofs.NodeLemmas.{node_shows}
use Rattle.tv_settling.proofs.node.barrier_node.Goals as goal

pub returns-clause-shows : goal.returns-clause-shows
returns-clause-shows c =
    let away = c.in_ok-elsewhere_node.field-0 in
    let never = c.in_ok-false_node.field-0 in
    let one = c.in_ok-push_item.ensures ∙ ap (λ ns. ns ++ away ∷ []) c.new-children.ensures.items in
    let both = c.in_ok-push_item-2.ensures ∙ ap (λ ns. ns ++ never ∷ []) one in
    node_shows c.args.barrier.now c.in_ok-node_of.field-0 c.in_ok-pieces.pieces.items c.push_item-2.new.items.items c.in-Ok.proofs.items away never c.in_ok-pieces.ensures c.in_ok-node_of.ensures both c.in_ok-elsewhere_node.ensures c.in_ok-false_node.ensures c.in-Ok.ensures.shown

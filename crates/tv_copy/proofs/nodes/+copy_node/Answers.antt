use Rattle.std.proofs.Common.{arith, ◌<◌, ◌≤◌, length, get_or, refl, ap, ◌∙◌, subst}
use Rattle.std.specs.List.{AllZip}
use Rattle.tv_cert.specs.Nodes.{size}
use Rattle.tv_cert.proofs.NodeLemmas.{kids_of, size_is, size_there}
use Rattle.tv_linear.proofs.ListLaws.{take_past}
use Rattle.tv_copy.specs.SameNodes.{SameNode}
use Rattle.tv_copy.specs.SameProofs.{SameProof}
use Rattle.tv_copy.proofs.Carrying.{zipped_more}
use Rattle.tv_copy.proofs.NodeParts.{made_same}
use Rattle.tv_copy.proofs.nodes.+copy_node.Goals as goal

pub copy_node-requires : goal.copy_node-requires
copy_node-requires t c =
    let node = c.args.node.now in
    let kids = kids_of node in
    let value = c.deref-child-items.ensures.value in
    let below = subst (λ xs. c.children.child-index < length xs) value c.children-test.true in
    let child = c.child-item.result in
    let is = c.child-item.is ∙ ap (λ xs. get_or xs c.children.child-index child) value in
    let smaller = size_there kids c.children.child-index below child is in
    let falls : size child < t = (let z = size_is node in let d = c.decreases in omega (arith, smaller, z, d)) in
    (falls, tt)

pub children-preserved : goal.children-preserved
children-preserved t c =
    let kids = kids_of c.args.node.now in
    let value = c.deref-child-items.ensures.value in
    let below = subst (λ xs. c.children.child-index < length xs) value c.children-test.true in
    let child = c.child-item.result in
    let is = c.child-item.is ∙ ap (λ xs. get_or xs c.children.child-index child) value in
    zipped_more SameNode kids c.children.children.items c.push_item.new.items.items c.children.child-index child c.in_ok-copy_node.field-0 below is c.children.invariant
    c.in_ok-copy_node.ensures c.in_ok-push_item.ensures

pub returns : goal.returns
returns t c =
    let node = c.args.node.now in
    let kids = kids_of node in
    let value = c.deref-child-items.ensures.value in
    let past = subst (λ xs. length xs ≤ c.children.child-index) value c.children-test.false in
    made_same node c.in_ok-new.field-0 _ c.children.children c.in_ok-proofs.proofs (c.in_ok-new.ensures ∙ c.in_ok-pieces.ensures ∙ c.list.ensures) refl
    (subst (λ xs. AllZip SameNode xs c.children.children.items) (take_past kids c.children.child-index past) c.children.invariant)
    (subst (λ xs. AllZip SameProof xs c.in_ok-proofs.proofs.items) c.deref.ensures.value c.in_ok-proofs.ensures)

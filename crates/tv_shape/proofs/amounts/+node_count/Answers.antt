use Rattle.std.proofs.Common.{arith, ◌<◌, ◌≤◌, length, ap, ◌∙◌, subst, get_or}
use Rattle.tv_cert.specs.Nodes.{size}
use Rattle.tv_cert.proofs.NodeLemmas.{kids_of, size_is, size_there}
use Rattle.tv_shape.proofs.AmountLemmas.{sizes_there, sizes_end}
use Rattle.tv_shape.proofs.amounts.+node_count.Goals as goal

pub loop-child-init : goal.loop-child-init
loop-child-init t c = let z = size_is c.args.node.now in (omega arith, omega (arith, z))

pub node_count-requires : goal.node_count-requires
node_count-requires t c =
    let node = c.args.node.now in
    let kids = kids_of node in
    let value = c.deref-child-items.ensures.value in
    let below = subst (λ xs. c.loop-child.child-index < length xs) value c.loop-child-test.true in
    let child = c.child-item.result in
    let is = c.child-item.is ∙ ap (λ xs. get_or xs c.loop-child.child-index child) value in
    let smaller = size_there kids c.loop-child.child-index below child is in
    let falls : size child < t = (let z = size_is node in let d = c.decreases in omega (arith, smaller, z, d)) in
    (falls, tt)

pub returns-in-None : goal.returns-in-None
returns-in-None t c =
    let kids = kids_of c.args.node.now in
    let value = c.deref-child-items.ensures.value in
    let below = subst (λ xs. c.loop-child.child-index < length xs) value c.loop-child-test.true in
    let child = c.child-item.result in
    let is = c.child-item.is ∙ ap (λ xs. get_or xs c.loop-child.child-index child) value in
    let a = sizes_there kids c.loop-child.child-index child below is in
    let i = c.loop-child.invariant in
    λ h. c.in-None.ensures (omega (arith, a, i, h))

pub returns : goal.returns
returns t c =
    let node = c.args.node.now in
    let i = c.loop-child.invariant in
    let z = sizes_end (kids_of node) c.loop-child.child-index (subst (λ xs. length xs ≤ c.loop-child.child-index) c.deref-child-items.ensures.value c.loop-child-test.false) in
    (omega (arith, i.0, i.1, z), omega (arith, i.1, z))

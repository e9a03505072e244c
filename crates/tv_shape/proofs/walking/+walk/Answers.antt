use Rattle.std.proofs.Common.{arith, ◌≡◌, ◌+◌, ◌<◌, ◌≤◌, length, ap, ◌∙◌, subst, get_or}
use Rattle.tv_cases.specs.Systems.{cases_of}
use Rattle.tv_cert.specs.AimViews.{aim_states}
use Rattle.tv_cert.specs.Nodes.{size}
use Rattle.tv_cert.specs.Statements.{Statement, parts_of}
use Rattle.tv_cert.proofs.NodeLemmas.{kids_of, size_is, size_there}
use Rattle.tv_shape.specs.Stations.{stations, AreRight, IsFirstMisshapen}
use Rattle.tv_shape.proofs.StationLemmas.{part_there, nodes_there, child_fails, stands_next, stands_ends, node_fails, kids_fail, node_right}
use Rattle.tv_shape.proofs.walking.+walk.Goals as goal

pub returns-in-Err : goal.returns-in-Err
returns-in-Err t c = node_fails (cases_of c.args.about.now) (aim_states c.args.aim.now) c.args.node.now c.args.number c.args.depth c.in-Err.fault c.in-Err.ensures

pub overflow_add-next : goal.overflow_add-next
overflow_add-next t c = let z = size_is c.args.node.now in omega (arith, z, c.requires)

pub part-requires : goal.part-requires
part-requires t c =
    let value = c.deref-child-items.ensures.value in
    let system = cases_of c.args.about.now in
    let s = aim_states c.args.aim.now in
    let node = c.args.node.now in
    let kids = kids_of node in
    let many = c.in-Ok.ensures.1.arguments in
    let below = subst (λ xs. c.loop-i.i < length xs) value c.loop-i-test.true in
    let child = c.child-item.result in
    let is = c.child-item.is ∙ ap (λ xs. get_or xs c.loop-i.i child) value in
    part_there system (parts_of s) kids (c.args.number + 1) (c.args.depth + 1) c.loop-i.next c.loop-i.i many below child is c.loop-i.invariant

pub walk-requires : goal.walk-requires
walk-requires t c =
    let value = c.deref-child-items.ensures.value in
    let system = cases_of c.args.about.now in
    let s = aim_states c.args.aim.now in
    let node = c.args.node.now in
    let kids = kids_of node in
    let many = c.in-Ok.ensures.1.arguments in
    let below = subst (λ xs. c.loop-i.i < length xs) value c.loop-i-test.true in
    let child = c.child-item.result in
    let is = c.child-item.is ∙ ap (λ xs. get_or xs c.loop-i.i child) value in
    let nodes = nodes_there system (parts_of s) kids (c.args.number + 1) (c.args.depth + 1) c.loop-i.next c.loop-i.i many below child is c.loop-i.invariant (let z = size_is node in omega (arith, z, c.requires)) in
    let smaller = size_there kids c.loop-i.i below child is in
    let falls : size child < t = (let z = size_is node in let d = c.decreases in omega (arith, smaller, z, d)) in
    (falls, nodes)

pub returns-in-Err-walk : goal.returns-in-Err-walk
returns-in-Err-walk t c =
    let value = c.deref-child-items.ensures.value in
    let system = cases_of c.args.about.now in
    let s = aim_states c.args.aim.now in
    let node = c.args.node.now in
    let kids = kids_of node in
    let many = c.in-Ok.ensures.1.arguments in
    let below = subst (λ xs. c.loop-i.i < length xs) value c.loop-i-test.true in
    let child = c.child-item.result in
    let is = c.child-item.is ∙ ap (λ xs. get_or xs c.loop-i.i child) value in
    kids_fail system s node c.args.number c.args.depth c.in-Err-walk.fault c.in-Ok.ensures
    (child_fails system (parts_of s) kids (c.args.number + 1) (c.args.depth + 1) c.loop-i.next c.loop-i.i many below child is c.loop-i.invariant c.in-Err-walk.fault
    (subst (λ p. IsFirstMisshapen system (stations c.loop-i.next (c.args.depth + 1) p child) c.in-Err-walk.fault) c.part.ensures c.in-Err-walk.ensures))

pub loop-i-preserved : goal.loop-i-preserved
loop-i-preserved t c =
    let value = c.deref-child-items.ensures.value in
    let system = cases_of c.args.about.now in
    let s = aim_states c.args.aim.now in
    let node = c.args.node.now in
    let kids = kids_of node in
    let many = c.in-Ok.ensures.1.arguments in
    let below = subst (λ xs. c.loop-i.i < length xs) value c.loop-i-test.true in
    let child = c.child-item.result in
    let is = c.child-item.is ∙ ap (λ xs. get_or xs c.loop-i.i child) value in
    let shown : Statement → Type 0 = λ p. AreRight system (stations c.loop-i.next (c.args.depth + 1) p child) × (c.in-Ok-walk.after ≡ c.loop-i.next + size child) in
    let k = subst shown c.part.ensures c.in-Ok-walk.ensures in
    stands_next system (parts_of s) kids (c.args.number + 1) (c.args.depth + 1) c.loop-i.next c.loop-i.i many below child is c.loop-i.invariant c.in-Ok-walk.after k.0 k.1

pub returns : goal.returns
returns t c =
    let value = c.deref-child-items.ensures.value in
    let system = cases_of c.args.about.now in
    let s = aim_states c.args.aim.now in
    let node = c.args.node.now in
    node_right system s node c.args.number c.args.depth c.loop-i.next c.in-Ok.ensures
    (stands_ends system (parts_of s) (kids_of node) (c.args.number + 1) (c.args.depth + 1) c.loop-i.next c.loop-i.i (subst (λ xs. length xs ≤ c.loop-i.i) value c.loop-i-test.false) c.loop-i.invariant)

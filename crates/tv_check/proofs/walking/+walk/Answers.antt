use Rattle.std.proofs.Common.{arith, ◌≡◌, ◌+◌, ◌<◌, ◌≤◌, ◌^◌, length, sym, ap, ◌∙◌, subst, get_or}
use Rattle.tv_cases.specs.Systems.{cases_of}
use Rattle.tv_cert.specs.Obligations.{AllMet}
use Rattle.tv_cert.specs.Nodes.{size, node_entries, own_entries, HasParts}
use Rattle.tv_cert.specs.AimViews.{aim_states}
use Rattle.tv_cert.specs.Statements.{Statement, parts_of}
use Rattle.tv_cert.specs.FirstFailing.{IsFirstFailing}
use Rattle.tv_cert.proofs.NodeLemmas.{kids_of, size_is, size_there}
use Rattle.tv_cert.proofs.EntryLists.{node_entries_are, parts_are}
use Rattle.tv_check.proofs.WalkLemmas.{part_there, child_fits, room_there, nodes_there, child_fails, Stands_next, Stands_ends, own_room, own_fails, own_true}
use Rattle.tv_check.proofs.walking.+walk.Goals as goal

pub part-requires : goal.part-requires
part-requires t c =
    let value = c.deref-child-items.ensures.value in
    let s = aim_states c.args.aim.now in
    part_there (cases_of c.args.about.now) (parts_of s) (kids_of c.args.node.now) (c.args.number + 1) c.args.from c.loop-i.next c.loop-i.seen c.loop-i.i
    (parts_are s c.args.node.now c.requires.parts) (subst (λ xs. c.loop-i.i < length xs) value c.loop-i-test.true) c.child-item.result (c.child-item.is ∙ ap (λ xs. get_or xs c.loop-i.i c.child-item.result) value) c.loop-i.invariant

pub walk-requires : goal.walk-requires
walk-requires t c =
    let value = c.deref-child-items.ensures.value in
    let system = cases_of c.args.about.now in
    let s = aim_states c.args.aim.now in
    let node = c.args.node.now in
    let fits = parts_are s node c.requires.parts in
    let below = subst (λ xs. c.loop-i.i < length xs) value c.loop-i-test.true in
    let is = c.child-item.is ∙ ap (λ xs. get_or xs c.loop-i.i c.child-item.result) value in
    let child = c.child-item.result in
    let room = room_there system (parts_of s) (kids_of node) (c.args.number + 1) c.args.from c.loop-i.next c.loop-i.seen c.loop-i.i fits below child is c.loop-i.invariant (own_entries c.args.number system s node) (subst (λ es. c.args.from + length es < 2 ^ 64) (node_entries_are c.args.number system s node) c.requires.room) in
    let nodes = nodes_there system (parts_of s) (kids_of node) (c.args.number + 1) c.args.from c.loop-i.next c.loop-i.seen c.loop-i.i fits below child is c.loop-i.invariant (let z = size_is node in omega (arith, z, c.requires.nodes)) in
    let child_is = subst (λ p. HasParts p child) (sym c.part.ensures) (child_fits system (parts_of s) (kids_of node) (c.args.number + 1) c.args.from c.loop-i.next c.loop-i.seen c.loop-i.i fits below child is c.loop-i.invariant) in
    let child_room = subst (λ p. c.loop-i.seen + length (node_entries c.loop-i.next system p child) < 2 ^ 64) (sym c.part.ensures) room in
    let smaller = size_there (kids_of node) c.loop-i.i below child is in
    let falls : size child < t = (let z = size_is node in let d = c.decreases in omega (arith, smaller, z, d)) in
    (falls, (child_is, (child_room, nodes)))

pub returns-in-Err : goal.returns-in-Err
returns-in-Err t c =
    let value = c.deref-child-items.ensures.value in
    let system = cases_of c.args.about.now in
    let s = aim_states c.args.aim.now in
    let node = c.args.node.now in
    let fits = parts_are s node c.requires.parts in
    let below = subst (λ xs. c.loop-i.i < length xs) value c.loop-i-test.true in
    let is = c.child-item.is ∙ ap (λ xs. get_or xs c.loop-i.i c.child-item.result) value in
    let child = c.child-item.result in
    subst (λ es. IsFirstFailing es c.args.from c.in-Err.failing) (sym (node_entries_are c.args.number system s node))
    (child_fails system (parts_of s) (kids_of node) (c.args.number + 1) c.args.from c.loop-i.next c.loop-i.seen c.loop-i.i fits below child is c.loop-i.invariant (own_entries c.args.number system s node) c.in-Err.failing
    (subst (λ p. IsFirstFailing (node_entries c.loop-i.next system p child) c.loop-i.seen c.in-Err.failing) c.part.ensures c.in-Err.ensures))

pub loop-i-preserved : goal.loop-i-preserved
loop-i-preserved t c =
    let value = c.deref-child-items.ensures.value in
    let system = cases_of c.args.about.now in
    let s = aim_states c.args.aim.now in
    let node = c.args.node.now in
    let fits = parts_are s node c.requires.parts in
    let below = subst (λ xs. c.loop-i.i < length xs) value c.loop-i-test.true in
    let is = c.child-item.is ∙ ap (λ xs. get_or xs c.loop-i.i c.child-item.result) value in
    let child = c.child-item.result in
    let shown : Statement → Type 0 = λ p. AllMet (node_entries c.loop-i.next system p child) × (c.in-Ok.more ≡ c.loop-i.seen + length (node_entries c.loop-i.next system p child)) × (c.in-Ok.after ≡ c.loop-i.next + size child) in
    let k = subst shown c.part.ensures c.in-Ok.ensures in
    Stands_next system (parts_of s) (kids_of node) (c.args.number + 1) c.args.from c.loop-i.next c.loop-i.seen c.loop-i.i fits below child is c.loop-i.invariant c.in-Ok.more c.in-Ok.after k.0 k.1 k.2

pub settle_node-requires : goal.settle_node-requires
settle_node-requires t c =
    let value = c.deref-child-items.ensures.value in
    let system = cases_of c.args.about.now in
    let s = aim_states c.args.aim.now in
    let node = c.args.node.now in
    let done = Stands_ends system (parts_of s) (kids_of node) (c.args.number + 1) c.args.from c.loop-i.next c.loop-i.seen c.loop-i.i (subst (λ xs. length xs ≤ c.loop-i.i) value c.loop-i-test.false) c.loop-i.invariant in
    own_room system s node c.args.number c.args.from c.loop-i.next c.loop-i.seen done c.requires.room

pub returns-in-Err-settle_node : goal.returns-in-Err-settle_node
returns-in-Err-settle_node t c =
    let value = c.deref-child-items.ensures.value in
    let system = cases_of c.args.about.now in
    let s = aim_states c.args.aim.now in
    let node = c.args.node.now in
    let done = Stands_ends system (parts_of s) (kids_of node) (c.args.number + 1) c.args.from c.loop-i.next c.loop-i.seen c.loop-i.i (subst (λ xs. length xs ≤ c.loop-i.i) value c.loop-i-test.false) c.loop-i.invariant in
    own_fails system s node c.args.number c.args.from c.loop-i.next c.loop-i.seen done c.in-Err-settle_node.failing c.in-Err-settle_node.ensures

pub returns-in-Ok-settle_node : goal.returns-in-Ok-settle_node
returns-in-Ok-settle_node t c =
    let value = c.deref-child-items.ensures.value in
    let system = cases_of c.args.about.now in
    let s = aim_states c.args.aim.now in
    let node = c.args.node.now in
    let done = Stands_ends system (parts_of s) (kids_of node) (c.args.number + 1) c.args.from c.loop-i.next c.loop-i.seen c.loop-i.i (subst (λ xs. length xs ≤ c.loop-i.i) value c.loop-i-test.false) c.loop-i.invariant in
    own_true system s node c.args.number c.args.from c.loop-i.next c.loop-i.seen done c.in-Ok-settle_node.more c.in-Ok-settle_node.ensures.0 c.in-Ok-settle_node.ensures.1

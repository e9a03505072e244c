use Rattle.std.proofs.Common.{arith, ap, ◌^◌, ◌<◌, ◌≡◌, ◌∙◌, length, map, sym, subst}
use Rattle.std.proofs.lemmas.List.{length-map}
use Rattle.std.proofs.lemmas.Bool.{eq-eqb, eqb-true}
use Rattle.tv_cases.specs.Systems.{cases_of}
use Rattle.tv_cases.specs.Views.{case_view}
use Rattle.tv_cert.specs.declared.node.Node.{out-Node}
use Rattle.tv_shape.proofs.NumberLemmas.{own_within}
use Rattle.tv_cert.specs.AimViews.{aim_states}
use Rattle.tv_cert.specs.NodeViews.{pieces_list}
use Rattle.tv_cert.specs.Nodes.{node_owes}
use Rattle.tv_shape.specs.Parts.{children_of, proofs_of}
use Rattle.tv_shape.proofs.ShaperLemmas.{Offered, taken_all, taken_fails, none_left, left_none}
use Rattle.tv_shape.proofs.nodes.proofs_have_shape.Goals as goal

pub visit_pieces-requires : goal.visit_pieces-requires
visit_pieces-requires c =
    let system = cases_of c.args.about.now in
    let node = out-Node c.args.node.now in
    let many = length-map c.deref-2.result.now pieces_list in
    let children : length (map pieces_list c.deref-2.result.now) < 2 ^ 63 = (let e = ap length c.deref-2.ensures.value in let o = node.children.ok in omega (arith, many, e, o, node.children.small)) in
    let list = c.args.about.now.list in
    let cases : length system.cases < 2 ^ 63 = (let e = length-map list.items case_view in let o = list.ok in omega (arith, e, o, list.small)) in
    own_within 0 system (aim_states c.args.aim.now) (pieces_list c.args.node.now) (map pieces_list c.deref-2.result.now) c.requires children cases

pub returns-then-not-visit_pieces : goal.returns-then-not-visit_pieces
returns-then-not-visit_pieces c =
    let system = cases_of c.args.about.now in
    let s = aim_states c.args.aim.now in
    let node = c.args.node.now in
    let os = node_owes 0 system s (pieces_list c.args.node.now) (map pieces_list c.deref-2.result.now) in
    let same : Offered os c.deref.result.now ≡ Offered (node_owes 0 system s (pieces_list node) (map pieces_list (children_of node))) (proofs_of node) = (λ i. Offered (node_owes 0 system s (pieces_list c.args.node.now) (map pieces_list (c.deref-2.ensures.value i))) (c.deref.ensures.value i)) in
    (λ t. cc, λ h. absurd (taken_fails os _ c.visit_pieces.new.visitor c.if-not-visit_pieces.ensures.0 (subst (λ (x : Type 0). x) (sym same) h)))

pub returns : goal.returns
returns c =
    let system = cases_of c.args.about.now in
    let s = aim_states c.args.aim.now in
    let node = c.args.node.now in
    let os = node_owes 0 system s (pieces_list c.args.node.now) (map pieces_list c.deref-2.result.now) in
    let same : Offered os c.deref.result.now ≡ Offered (node_owes 0 system s (pieces_list node) (map pieces_list (children_of node))) (proofs_of node) = (λ i. Offered (node_owes 0 system s (pieces_list c.args.node.now) (map pieces_list (c.deref-2.ensures.value i))) (c.deref.ensures.value i)) in
    let all = taken_all os _ c.visit_pieces.new.visitor c.if-not-visit_pieces.ensures.0 in
    let left = c.visit_pieces.new.visitor.proofs.now in (
      λ t. subst (λ (x : Type 0). x) same (all.0 (none_left left (eqb-true (length left) 0 (sym c.is_empty.ensures ∙ t)))),
      λ h. c.is_empty.ensures ∙ eq-eqb (length left) 0 (left_none left (all.1 (subst (λ (x : Type 0). x) (sym same) h))),
    )

use Rattle.std.proofs.Common.{◌≡◌, ◌∙◌, ◌+◌, map, length, ap, sym, subst, arith, Some}
use Rattle.tv_cases.specs.Systems.{cases_of}
use Rattle.tv_cert.specs.Obligations.{AllMet, paired}
use Rattle.tv_cert.specs.AimViews.{aim_states}
use Rattle.tv_cert.specs.NodeViews.{pieces_list}
use Rattle.tv_cert.specs.Nodes.{node_owes, own_entries}
use Rattle.tv_cert.specs.FirstFailing.{IsFirstFailing}
use Rattle.tv_cert.specs.declared.failing.Failing.{Failing}
use Rattle.tv_cert.proofs.NodeLemmas.{length-paired}
use Rattle.tv_cert.proofs.EntryLists.{own_entries_are}
use Rattle.tv_check.proofs.SettlingLemmas.{settled_all, settled_fails}
use Rattle.tv_check.proofs.walking.settle_node.Goals as goal

pub visit_pieces-requires : goal.visit_pieces-requires
visit_pieces-requires c =
    let system = cases_of c.args.about.now in
    let s = aim_states c.args.aim.now in
    let os = node_owes c.args.number system s (pieces_list c.args.node.now) (map pieces_list c.deref-2.result.now) in
    let same : paired os c.deref.result.now ≡ own_entries c.args.number system s c.args.node.now = (λ i. paired (node_owes c.args.number system s (pieces_list c.args.node.now) (map pieces_list (c.deref-2.ensures.value i))) (c.deref.ensures.value i)) ∙ sym (own_entries_are c.args.number system s c.args.node.now) in
    let many = sym (length-paired os c.deref.result.now) ∙ ap length same in
    omega (arith, many, c.requires)

pub returns-then-visit_pieces : goal.returns-then-visit_pieces
returns-then-visit_pieces c =
    let system = cases_of c.args.about.now in
    let s = aim_states c.args.aim.now in
    let os = node_owes c.args.number system s (pieces_list c.args.node.now) (map pieces_list c.deref-2.result.now) in
    let same : paired os c.deref.result.now ≡ own_entries c.args.number system s c.args.node.now = (λ i. paired (node_owes c.args.number system s (pieces_list c.args.node.now) (map pieces_list (c.deref-2.ensures.value i))) (c.deref.ensures.value i)) ∙ sym (own_entries_are c.args.number system s c.args.node.now) in
    let all = settled_all os _ c.visit_pieces.new.visitor c.if-visit_pieces.ensures.0 in
    (subst AllMet same all.0, all.1 ∙ ap (λ es. c.args.seen + length es) same)

pub returns : goal.returns
returns c =
    let system = cases_of c.args.about.now in
    let s = aim_states c.args.aim.now in
    let os = node_owes c.args.number system s (pieces_list c.args.node.now) (map pieces_list c.deref-2.result.now) in
    let same : paired os c.deref.result.now ≡ own_entries c.args.number system s c.args.node.now = (λ i. paired (node_owes c.args.number system s (pieces_list c.args.node.now) (map pieces_list (c.deref-2.ensures.value i))) (c.deref.ensures.value i)) ∙ sym (own_entries_are c.args.number system s c.args.node.now) in
    let w = settled_fails os _ c.visit_pieces.new.visitor c.if-visit_pieces.ensures.0 in
    let is : w.0 ≡ c.in-Some.failing = kept w.0 c.in-Some.failing (sym w.1 ∙ c.in-Some.is) in
    subst (λ f. IsFirstFailing (own_entries c.args.number system s c.args.node.now) c.args.seen f) is (subst (λ es. IsFirstFailing es c.args.seen w.0) same w.2)
  where
    kept : (f g : Failing) → Some f ≡ Some g → f ≡ g
    kept f g e = cc

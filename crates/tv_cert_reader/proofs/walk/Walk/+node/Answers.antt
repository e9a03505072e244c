use Rattle.std.proofs.Common.{◌≡◌, ◌+◌, ◌<◌, ◌^◌, Err, List, [], ◌∷◌, false, length, length-append, map, refl, sym, ap, ◌∙◌, subst, arith}
use Rattle.tv_cases.specs.Systems.{cases_of}
use Rattle.tv_cert.specs.AimViews.{aim_states}
use Rattle.tv_cert.specs.declared.node.Marked.{Marked}
use Rattle.tv_cert.specs.NodeViews.{pieces_list}
use Rattle.tv_cert.specs.Nodes.{node_owes}
use Rattle.tv_cert.specs.Statements.{parts_of, part_at, count}
use Rattle.tv_cert_reader.specs.NodeGrammar.{node}
use Rattle.tv_cert_reader.specs.Reading.{FailsBy, Takes}
use Rattle.tv_cert_reader.specs.Regions.{IsRegion, region_lines, region_with}
use Rattle.tv_cert_reader.specs.Walks.{AreTaken, IsWalked, TakesOwn, Walks}
use Rattle.tv_cert_reader.proofs.ReadingLemmas.{at_exit}
use Rattle.tv_cert_reader.proofs.NodeLemmas.{weight, part_lighter, region_fails}
use Rattle.tv_cert_reader.proofs.WalkLemmas.{Stands, stands_first, child_stops, stands_next, few_parts, own_stops, node_walked}
use Rattle.tv_cert_reader.proofs.walk.Walk.+node.Goals as goal

pub returns-in_err-pieces-clause-walked : goal.returns-in_err-pieces-clause-walked
returns-in_err-pieces-clause-walked g t c =
    let system = cases_of c.args.about.now in
    let s = aim_states c.args.aim.now in
    let f = c.in_err-pieces.field-0.0 in
    at_exit (Walks g.T.Taker.takes g.T.Taker.room g.T.Taker.whole system s c.args.self.now _) c.from_residual.result f c.from_residual.ensures.1
    (region_fails system s c.args.self.now.cursor f
    (subst (λ (x : Type 0). x) (λ i. FailsBy (region_with system (c.kind_of.ensures.kind i) (c.may_rank.ensures i) (c.may_be_done.ensures i)) c.args.self.now.cursor f) c.in_err-pieces.ensures))

pub children-init : goal.children-init
children-init g t c =
    let system = cases_of c.args.about.now in
    let s = aim_states c.args.aim.now in
    let inside = sym c.pieces.view_is in
    let m = c.in_ok-pieces.ranks in
    let is = subst (λ (x : Type 0). x) (λ i. IsRegion system (c.may_rank.ensures i) (c.may_be_done.ensures i) (inside i, m)) c.in_ok-pieces.ensures.0 in
    let took = subst (λ (x : Type 0). x) (λ i. Takes (region_lines (c.kind_of.ensures.kind i) (inside i, m)) c.args.self.now.cursor c.region.new.cursor) c.in_ok-pieces.ensures.1 in
    (stands_first g.T.Taker.takes g.T.Taker.room g.T.Taker.whole system s c.args.self.now _ c.pieces.inside.list.items m c.new-children.result.items c.new-children.ensures.items is took refl refl c.requires, ap length c.new-children.ensures.items, omega arith)

pub node-requires : goal.node-requires
node-requires g t c =
    let s = aim_states c.args.aim.now in
    let bounded : c.children.i < count (parts_of s) = (let e = c.argument_count-i-end.ensures in let b = c.children-test.true in omega (arith, e, b)) in
    let smaller : weight (aim_states c.part.result.now) < weight s = subst (λ p. weight p < weight s) (sym c.part.ensures) (part_lighter c.children.i s bounded) in
    let d = c.decreases in
    λ κs within. (omega (arith, smaller, d), (within, c.children.invariant.0.counted))

pub returns-in_err-child-clause-walked : goal.returns-in_err-child-clause-walked
returns-in_err-child-clause-walked g t c =
    let system = cases_of c.args.about.now in
    let s = aim_states c.args.aim.now in
    let o = c.children.invariant in
    let f = c.in_err-child.field-0.0 in
    let bounded : length c.children.children.items < count (parts_of s) = (let e = c.argument_count-i-end.ensures in let b = c.children-test.true in let n = o.1 in omega (arith, e, b, n)) in
    at_exit (Walks g.T.Taker.takes g.T.Taker.room g.T.Taker.whole system s c.args.self.now c.node.new.self) c.from_residual-in_err-child.result f c.from_residual-in_err-child.ensures.1
    (child_stops g.T.Taker.takes g.T.Taker.room g.T.Taker.whole system s c.args.self.now c.children.self c.pieces.inside.list.items c.in_ok-pieces.ranks c.children.children.items o.0 f bounded
    (subst (λ p. FailsBy (node false system p) c.children.self.cursor f) (c.part.ensures ∙ ap (λ i. part_at i (parts_of s)) (sym o.1)) c.in_err-child.ensures.walked))

pub children-preserved : goal.children-preserved
children-preserved g t c =
    let system = cases_of c.args.about.now in
    let s = aim_states c.args.aim.now in
    let o = c.children.invariant in
    let bounded : length c.children.children.items < count (parts_of s) = (let e = c.argument_count-i-end.ensures in let b = c.children-test.true in let n = o.1 in omega (arith, e, b, n)) in
    let part = c.part.ensures ∙ ap (λ i. part_at i (parts_of s)) (sym o.1) in
    let long = ap length c.in_ok-push.ensures.items ∙ length-append c.children.children.items (c.in_ok-child.child ∷ []) in (
      stands_next g.T.Taker.takes g.T.Taker.room g.T.Taker.whole system s c.args.self.now c.children.self c.pieces.inside.list.items c.in_ok-pieces.ranks c.children.children.items o.0 c.node.new.self c.push.new.self.items c.in_ok-child.child bounded
          (subst (λ p. IsWalked g.T.Taker.takes g.T.Taker.room g.T.Taker.whole system p c.children.self c.node.new.self c.in_ok-child.child) part c.in_ok-child.ensures.walked)
          c.in_ok-push.ensures.items,
      (let n = o.1 in omega (arith, long, n)),
      (let n = o.1 in omega (arith, bounded, n)),
    )

pub own_proofs-requires-clause-bounded : goal.own_proofs-requires-clause-bounded
own_proofs-requires-clause-bounded g t c =
    let system = cases_of c.args.about.now in
    let s = aim_states c.args.aim.now in
    let h = few_parts g.T.Taker.takes g.T.Taker.room g.T.Taker.whole system s c.args.self.now c.children.self c.pieces.inside.list.items c.in_ok-pieces.ranks c.children.children.items c.children.invariant.0 in
    subst (λ (x : Type 0). x) (λ i. length (c.pieces.view_is i) + length (sym c.deref.ensures.value i) < 2 ^ 32) h

pub own_proofs-requires-clause-room : goal.own_proofs-requires-clause-room
own_proofs-requires-clause-room g t c = c.children.invariant.0.counted

pub returns-in_err-proofs-clause-walked : goal.returns-in_err-proofs-clause-walked
returns-in_err-proofs-clause-walked g t c =
    let system = cases_of c.args.about.now in
    let s = aim_states c.args.aim.now in
    let o = c.children.invariant in
    let f = c.in_err-proofs.field-0.0 in
    let stands = subst (λ (ps : List Marked). Stands g.T.Taker.takes g.T.Taker.room g.T.Taker.whole system s c.args.self.now c.children.self ps c.in_ok-pieces.ranks c.children.children.items) c.pieces.view_is o.0 in
    let many : length c.children.children.items ≡ count (parts_of s) = (let e = c.argument_count-i-end.ensures in let b = c.children-test.false in let n = o.1 in let m = o.2 in omega (arith, e, b, n, m)) in
    at_exit (Walks g.T.Taker.takes g.T.Taker.room g.T.Taker.whole system s c.args.self.now c.own_proofs.new.self) c.from_residual-in_err-proofs.result f c.from_residual-in_err-proofs.ensures.1
    (own_stops g.T.Taker.takes g.T.Taker.room g.T.Taker.whole system s c.args.self.now c.children.self c.in_ok-pieces.pieces c.in_ok-pieces.ranks c.children.children.items stands many f
    (subst (λ ks. TakesOwn g.T.Taker.takes g.T.Taker.whole (node_owes c.args.self.now.nodes system s c.in_ok-pieces.pieces (map pieces_list ks)) c.children.self c.own_proofs.new.self (Err f)) c.deref.ensures.value c.in_err-proofs.ensures.taken))

pub returns-clause-walked : goal.returns-clause-walked
returns-clause-walked g t c =
    let system = cases_of c.args.about.now in
    let s = aim_states c.args.aim.now in
    let o = c.children.invariant in
    let stands = subst (λ (ps : List Marked). Stands g.T.Taker.takes g.T.Taker.room g.T.Taker.whole system s c.args.self.now c.children.self ps c.in_ok-pieces.ranks c.children.children.items) c.pieces.view_is o.0 in
    let many : length c.children.children.items ≡ count (parts_of s) = (let e = c.argument_count-i-end.ensures in let b = c.children-test.false in let n = o.1 in let m = o.2 in omega (arith, e, b, n, m)) in
    node_walked g.T.Taker.takes g.T.Taker.room g.T.Taker.whole system s c.args.self.now c.children.self c.own_proofs.new.self c.in_ok-pieces.pieces c.in_ok-pieces.ranks c.children.children c.in_ok-proofs.proofs c.kind_of.ensures.said stands many
    (subst (λ ks. AreTaken g.T.Taker.takes g.T.Taker.whole (node_owes c.args.self.now.nodes system s c.in_ok-pieces.pieces (map pieces_list ks)) c.children.self c.own_proofs.new.self [] c.in_ok-proofs.proofs.items) c.deref.ensures.value c.in_ok-proofs.ensures.taken)
    c.in_ok-proofs.ensures.room _ c.kept.ensures.whole c.kept.ensures.pieces

pub returns-clause-bounded : goal.returns-clause-bounded
returns-clause-bounded g t c =
    let system = cases_of c.args.about.now in
    let s = aim_states c.args.aim.now in
    let stands = subst (λ (ps : List Marked). Stands g.T.Taker.takes g.T.Taker.room g.T.Taker.whole system s c.args.self.now c.children.self ps c.in_ok-pieces.ranks c.children.children.items) c.pieces.view_is c.children.invariant.0 in
    let h = few_parts g.T.Taker.takes g.T.Taker.room g.T.Taker.whole system s c.args.self.now c.children.self c.in_ok-pieces.pieces c.in_ok-pieces.ranks c.children.children.items stands in
    subst (λ (ps : List Marked). length ps < 2 ^ 32) (sym c.kept.ensures.pieces) (omega (arith, h))

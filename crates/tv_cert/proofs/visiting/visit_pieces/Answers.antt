use Rattle.std.proofs.Common.{◌≡◌, ◌<◌, ◌≤◌, List, length, get_or, subst, sym, refl, map, true, false}
use Rattle.tv_cert.specs.declared.node.Marked.{Marked}
use Rattle.std.specs.List.{flat_map}
use Rattle.tv_cases.specs.Systems.{cases_of}
use Rattle.tv_cert.specs.NodeViews.{pieces_list}
use Rattle.tv_cert.specs.AimViews.{aim_states}
use Rattle.tv_cert.specs.Nodes.{piece_owes}
use Rattle.tv_cert.specs.Visits.{Visits}
use Rattle.tv_cert.proofs.VisitLemmas.{ahead_end, ahead_fails, ahead_next, ahead_room}
use Rattle.tv_cert.proofs.VisitedCases.{flat_map-one, flat_map-cons}
use Rattle.tv_cert.proofs.visiting.visit_pieces.Goals as goal

pub visit_piece-requires : goal.visit_piece-requires
visit_piece-requires g c =
    let system = cases_of c.args.about.now in
    let owes = piece_owes c.args.number system (aim_states c.args.aim.now) c.args.pieces.now (map pieces_list c.args.children.now) in
    subst (λ os. length os ≤ g.V.Visitor.room c.loop-piece.visitor) (flat_map-one owes c.piece-item.result)
    (ahead_room (g.V.Visitor.passes system) (g.V.Visitor.stops system) g.V.Visitor.room (flat_map owes) refl (flat_map-cons owes) c.args.pieces.now c.args.visitor.now c.loop-piece.visitor c.loop-piece.piece-index c.loop-piece.invariant c.piece-item.result (subst (λ (ps : List Marked). c.loop-piece.piece-index < length ps) c.list-piece-items.ensures c.loop-piece-test.true) (subst (λ (ps : List Marked). c.piece-item.result ≡ get_or ps c.loop-piece.piece-index c.piece-item.result) c.list-piece-items.ensures c.piece-item.is))

pub returns-then-not-visit_piece : goal.returns-then-not-visit_piece
returns-then-not-visit_piece g c =
    let system = cases_of c.args.about.now in
    let passes = g.V.Visitor.passes system in
    let stops = g.V.Visitor.stops system in
    let owes = piece_owes c.args.number system (aim_states c.args.aim.now) c.args.pieces.now (map pieces_list c.args.children.now) in
    let here = subst (λ r. Visits passes stops g.V.Visitor.room r c.loop-piece.visitor (owes c.piece-item.result) c.visit_piece.new.visitor) c.if-not-visit_piece.true c.visit_piece.ensures in
    ahead_fails passes stops g.V.Visitor.room (flat_map owes) refl (flat_map-cons owes) c.args.pieces.now c.args.visitor.now c.loop-piece.visitor c.loop-piece.piece-index c.loop-piece.invariant c.piece-item.result (subst (λ (ps : List Marked). c.loop-piece.piece-index < length ps) c.list-piece-items.ensures c.loop-piece-test.true) (subst (λ (ps : List Marked). c.piece-item.result ≡ get_or ps c.loop-piece.piece-index c.piece-item.result) c.list-piece-items.ensures c.piece-item.is) c.visit_piece.new.visitor
    (subst (λ os. Visits passes stops g.V.Visitor.room false c.loop-piece.visitor os c.visit_piece.new.visitor) (sym (flat_map-one owes c.piece-item.result)) here)

pub loop-piece-preserved : goal.loop-piece-preserved
loop-piece-preserved g c =
    let system = cases_of c.args.about.now in
    let passes = g.V.Visitor.passes system in
    let stops = g.V.Visitor.stops system in
    let owes = piece_owes c.args.number system (aim_states c.args.aim.now) c.args.pieces.now (map pieces_list c.args.children.now) in
    let here = subst (λ r. Visits passes stops g.V.Visitor.room r c.loop-piece.visitor (owes c.piece-item.result) c.visit_piece.new.visitor) c.if-not-visit_piece.false c.visit_piece.ensures in
    ahead_next passes stops g.V.Visitor.room (flat_map owes) refl (flat_map-cons owes) c.args.pieces.now c.args.visitor.now c.loop-piece.visitor c.loop-piece.piece-index c.loop-piece.invariant c.piece-item.result (subst (λ (ps : List Marked). c.loop-piece.piece-index < length ps) c.list-piece-items.ensures c.loop-piece-test.true) (subst (λ (ps : List Marked). c.piece-item.result ≡ get_or ps c.loop-piece.piece-index c.piece-item.result) c.list-piece-items.ensures c.piece-item.is) c.visit_piece.new.visitor
    (subst (λ os. Visits passes stops g.V.Visitor.room true c.loop-piece.visitor os c.visit_piece.new.visitor) (sym (flat_map-one owes c.piece-item.result)) here)

pub returns : goal.returns
returns g c =
    let system = cases_of c.args.about.now in
    let owes = piece_owes c.args.number system (aim_states c.args.aim.now) c.args.pieces.now (map pieces_list c.args.children.now) in
    ahead_end (g.V.Visitor.passes system) (g.V.Visitor.stops system) g.V.Visitor.room (flat_map owes) refl (flat_map-cons owes) c.args.pieces.now c.args.visitor.now c.loop-piece.visitor c.loop-piece.piece-index c.loop-piece.invariant (subst (λ (ps : List Marked). length ps ≤ c.loop-piece.piece-index) c.list-piece-items.ensures c.loop-piece-test.false)

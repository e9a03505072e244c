use Rattle.std.proofs.Common.{List, ◌∷◌, [], subst, refl, map}
use Rattle.tv_cases.specs.Systems.{cases_of}
use Rattle.tv_cert.specs.declared.node.Kind.TheVariants as kind
use Rattle.tv_cert.specs.declared.node.Node.{Node}
use Rattle.tv_cert.specs.Obligations.{cover_of}
use Rattle.tv_cert.specs.AboutSystem.{about_of}
use Rattle.tv_cert.specs.NodeViews.{pieces_list}
use Rattle.tv_cert.specs.Visits.{Visits}
use Rattle.tv_cert.proofs.VisitLemmas.{ahead_end, ahead_fails, ahead_next, ahead_room}
use Rattle.tv_cert.proofs.visiting.visit_children.Goals as goal

pub visit_cover-requires : goal.visit_cover-requires
visit_cover-requires g c =
    let system = cases_of c.args.at.now.about.now in
    let owes = λ (kids : List Node). map (cover_of c.args.at.now.number kind.Child (about_of system) c.args.at.now.piece.now) (map pieces_list kids) in
    ahead_room (g.V.Visitor.passes system) (g.V.Visitor.stops system) g.V.Visitor.room owes refl (λ x xs. refl) c.args.children.now c.args.visitor.now c.loop-child.visitor c.loop-child.child-index c.loop-child.invariant c.child-item.result c.loop-child-test.true c.child-item.is

pub returns-then-not-visit_cover : goal.returns-then-not-visit_cover
returns-then-not-visit_cover g c =
    let system = cases_of c.args.at.now.about.now in
    let passes = g.V.Visitor.passes system in
    let stops = g.V.Visitor.stops system in
    let owes = λ (kids : List Node). map (cover_of c.args.at.now.number kind.Child (about_of system) c.args.at.now.piece.now) (map pieces_list kids) in
    ahead_fails passes stops g.V.Visitor.room owes refl (λ x xs. refl) c.args.children.now c.args.visitor.now c.loop-child.visitor c.loop-child.child-index c.loop-child.invariant c.child-item.result c.loop-child-test.true c.child-item.is c.visit_cover.new.visitor
    (subst (λ r. Visits passes stops g.V.Visitor.room r c.loop-child.visitor (owes (c.child-item.result ∷ [])) c.visit_cover.new.visitor) c.if-not-visit_cover.true c.visit_cover.ensures)

pub loop-child-preserved : goal.loop-child-preserved
loop-child-preserved g c =
    let system = cases_of c.args.at.now.about.now in
    let passes = g.V.Visitor.passes system in
    let stops = g.V.Visitor.stops system in
    let owes = λ (kids : List Node). map (cover_of c.args.at.now.number kind.Child (about_of system) c.args.at.now.piece.now) (map pieces_list kids) in
    ahead_next passes stops g.V.Visitor.room owes refl (λ x xs. refl) c.args.children.now c.args.visitor.now c.loop-child.visitor c.loop-child.child-index c.loop-child.invariant c.child-item.result c.loop-child-test.true c.child-item.is c.visit_cover.new.visitor
    (subst (λ r. Visits passes stops g.V.Visitor.room r c.loop-child.visitor (owes (c.child-item.result ∷ [])) c.visit_cover.new.visitor) c.if-not-visit_cover.false c.visit_cover.ensures)

pub returns : goal.returns
returns g c =
    let system = cases_of c.args.at.now.about.now in
    let owes = λ (kids : List Node). map (cover_of c.args.at.now.number kind.Child (about_of system) c.args.at.now.piece.now) (map pieces_list kids) in
    ahead_end (g.V.Visitor.passes system) (g.V.Visitor.stops system) g.V.Visitor.room owes refl (λ x xs. refl) c.args.children.now c.args.visitor.now c.loop-child.visitor c.loop-child.child-index c.loop-child.invariant c.loop-child-test.false

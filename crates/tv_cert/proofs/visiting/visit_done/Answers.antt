use Rattle.std.proofs.Common.{◌∷◌, [], subst, sym, map, false}
use Rattle.tv_cases.specs.Systems.{cases_of}
use Rattle.tv_cert.specs.declared.node.Kind.TheVariants as kind
use Rattle.tv_cert.specs.Obligations.{cover_of}
use Rattle.tv_cert.specs.AboutSystem.{about_of}
use Rattle.tv_cert.specs.Visits.{Visits}
use Rattle.tv_cert.proofs.VisitLemmas.{visits_then, visits_fails}
use Rattle.tv_cert.proofs.VisitedCases.{sides_both}
use Rattle.tv_cert.proofs.visiting.visit_done.Goals as goal

pub returns-then-not-visit_cover : goal.returns-then-not-visit_cover
returns-then-not-visit_cover g c =
    let system = cases_of c.args.at.now.about.now in
    let passes = g.V.Visitor.passes system in
    let stops = g.V.Visitor.stops system in
    let cover = cover_of c.args.at.now.number kind.Done (about_of system) c.args.at.now.piece.now in
    let first = subst (λ r. Visits passes stops g.V.Visitor.room r c.args.visitor.now (cover c.args.fixed.now.first.now ∷ []) c.visit_cover-in-Release.new.visitor) c.if-not-visit_cover.true c.visit_cover-in-Release.ensures in
    subst (λ sides. Visits passes stops g.V.Visitor.room false c.args.visitor.now (map cover sides) c.visit_cover-in-Release.new.visitor) (sym (sides_both c.args.fixed.now.shape c.in-Release.is c.args.fixed.now.first.now c.args.fixed.now.second.now))
    (visits_fails passes stops g.V.Visitor.room c.args.visitor.now c.visit_cover-in-Release.new.visitor (cover c.args.fixed.now.first.now ∷ []) (cover c.args.fixed.now.second.now ∷ []) first)

pub returns-else-not-visit_cover : goal.returns-else-not-visit_cover
returns-else-not-visit_cover g c =
    let system = cases_of c.args.at.now.about.now in
    let passes = g.V.Visitor.passes system in
    let stops = g.V.Visitor.stops system in
    let cover = cover_of c.args.at.now.number kind.Done (about_of system) c.args.at.now.piece.now in
    let first = subst (λ r. Visits passes stops g.V.Visitor.room r c.args.visitor.now (cover c.args.fixed.now.first.now ∷ []) c.visit_cover-in-Release.new.visitor) c.if-not-visit_cover.false c.visit_cover-in-Release.ensures in
    subst (λ sides. Visits passes stops g.V.Visitor.room c.visit_cover-in-Release-2.result c.args.visitor.now (map cover sides) c.visit_cover-in-Release-2.new.visitor) (sym (sides_both c.args.fixed.now.shape c.in-Release.is c.args.fixed.now.first.now c.args.fixed.now.second.now))
    (visits_then passes stops g.V.Visitor.room c.visit_cover-in-Release-2.result c.args.visitor.now c.visit_cover-in-Release.new.visitor c.visit_cover-in-Release-2.new.visitor (cover c.args.fixed.now.first.now ∷ []) (cover c.args.fixed.now.second.now ∷ []) first c.visit_cover-in-Release-2.ensures)

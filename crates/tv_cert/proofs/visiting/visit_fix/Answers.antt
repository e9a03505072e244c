use Rattle.std.proofs.Common.{◌∷◌, [], ◌≡◌, subst, sym, ap, ◌∙◌, true, false}
use Rattle.tv_cases.specs.Systems.{cases_of}
use Rattle.tv_cert.specs.declared.node.Kind.TheVariants as kind
use Rattle.tv_cert.specs.Pieces.{is_go, goes}
use Rattle.tv_cert.specs.Obligations.{cover_of, hold_side, go_of, fix_of}
use Rattle.tv_cert.specs.AboutSystem.{about_of}
use Rattle.tv_cert.specs.Visits.{Visits}
use Rattle.tv_cert.proofs.VisitLemmas.{visits_then, visits_fails}
use Rattle.tv_cert.proofs.visiting.visit_fix.Goals as goal

pub returns-then-not-visit_hold : goal.returns-then-not-visit_hold
returns-then-not-visit_hold g c =
    let about = about_of (cases_of c.args.at.now.about.now) in
    let passes = g.V.Visitor.passes (cases_of c.args.at.now.about.now) in
    let stops = g.V.Visitor.stops (cases_of c.args.at.now.about.now) in
    let hold = cover_of c.args.at.now.number kind.Hold about c.args.at.now.piece.now (hold_side c.args.fixed.now.shape c.args.fixed.now.first.now c.args.fixed.now.second.now) in
    let onward = go_of c.args.at.now.number about c.args.fixed.now.path c.args.fixed.now.shape c.args.pieces.now c.args.at.now.piece.now in
    let go : goes c.args.at.now.piece.now ≡ true = ap is_go (sym c.mark.ensures ∙ c.in-Go.is) in
    subst (λ b. Visits passes stops g.V.Visitor.room false c.args.visitor.now (fix_of c.args.at.now.number about c.args.fixed.now.path c.args.fixed.now.shape c.args.pieces.now c.args.fixed.now.first.now c.args.fixed.now.second.now c.args.at.now.piece.now b) c.visit_hold.new.visitor) (sym go)
    (visits_fails passes stops g.V.Visitor.room c.args.visitor.now c.visit_hold.new.visitor (hold ∷ []) onward
    (subst (λ r. Visits passes stops g.V.Visitor.room r c.args.visitor.now (hold ∷ []) c.visit_hold.new.visitor) c.if-not-visit_hold.true c.visit_hold.ensures))

pub returns-else-not-visit_hold : goal.returns-else-not-visit_hold
returns-else-not-visit_hold g c =
    let about = about_of (cases_of c.args.at.now.about.now) in
    let passes = g.V.Visitor.passes (cases_of c.args.at.now.about.now) in
    let stops = g.V.Visitor.stops (cases_of c.args.at.now.about.now) in
    let hold = cover_of c.args.at.now.number kind.Hold about c.args.at.now.piece.now (hold_side c.args.fixed.now.shape c.args.fixed.now.first.now c.args.fixed.now.second.now) in
    let onward = go_of c.args.at.now.number about c.args.fixed.now.path c.args.fixed.now.shape c.args.pieces.now c.args.at.now.piece.now in
    let go : goes c.args.at.now.piece.now ≡ true = ap is_go (sym c.mark.ensures ∙ c.in-Go.is) in
    subst (λ b. Visits passes stops g.V.Visitor.room c.visit_onward.result c.args.visitor.now (fix_of c.args.at.now.number about c.args.fixed.now.path c.args.fixed.now.shape c.args.pieces.now c.args.fixed.now.first.now c.args.fixed.now.second.now c.args.at.now.piece.now b) c.visit_onward.new.visitor) (sym go)
    (visits_then passes stops g.V.Visitor.room c.visit_onward.result c.args.visitor.now c.visit_hold.new.visitor c.visit_onward.new.visitor (hold ∷ []) onward
    (subst (λ r. Visits passes stops g.V.Visitor.room r c.args.visitor.now (hold ∷ []) c.visit_hold.new.visitor) c.if-not-visit_hold.false c.visit_hold.ensures) c.visit_onward.ensures)

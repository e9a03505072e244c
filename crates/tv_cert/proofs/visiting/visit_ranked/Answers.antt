use Rattle.std.proofs.Common.{◌∷◌, [], subst, false}
use Rattle.tv_cases.specs.Systems.{cases_of}
use Rattle.tv_cert.specs.declared.node.Kind.TheVariants as kind
use Rattle.tv_cert.specs.Targets.{owed_nothing}
use Rattle.tv_cert.specs.Obligations.{choice_of, steps_of, step_fall}
use Rattle.tv_cert.specs.AboutSystem.{about_of}
use Rattle.tv_cert.specs.Visits.{Visits}
use Rattle.tv_cert.proofs.VisitLemmas.{visits_then, visits_fails}
use Rattle.tv_cert.proofs.visiting.visit_ranked.Goals as goal

pub returns-then-not-visit_choice : goal.returns-then-not-visit_choice
returns-then-not-visit_choice g c =
    let system = cases_of c.args.at.now.about.now in
    let passes = g.V.Visitor.passes system in
    let stops = g.V.Visitor.stops system in
    let choice = choice_of c.args.at.now.number kind.Successor (about_of system) c.args.at.now.piece.now false (λ c draws. owed_nothing) in
    let steps = steps_of c.args.at.now.number (about_of system) c.args.at.now.piece.now c.args.pieces.now (step_fall (about_of system) c.args.at.now.piece.now) in
    visits_fails passes stops g.V.Visitor.room c.args.visitor.now c.visit_choice.new.visitor (choice ∷ []) steps
    (subst (λ r. Visits passes stops g.V.Visitor.room r c.args.visitor.now (choice ∷ []) c.visit_choice.new.visitor) c.if-not-visit_choice.true c.visit_choice.ensures)

pub returns : goal.returns
returns g c =
    let system = cases_of c.args.at.now.about.now in
    let passes = g.V.Visitor.passes system in
    let stops = g.V.Visitor.stops system in
    let choice = choice_of c.args.at.now.number kind.Successor (about_of system) c.args.at.now.piece.now false (λ c draws. owed_nothing) in
    let steps = steps_of c.args.at.now.number (about_of system) c.args.at.now.piece.now c.args.pieces.now (step_fall (about_of system) c.args.at.now.piece.now) in
    visits_then passes stops g.V.Visitor.room c.visit_steps.result c.args.visitor.now c.visit_choice.new.visitor c.visit_steps.new.visitor (choice ∷ []) steps
    (subst (λ r. Visits passes stops g.V.Visitor.room r c.args.visitor.now (choice ∷ []) c.visit_choice.new.visitor) c.if-not-visit_choice.false c.visit_choice.ensures) c.visit_steps.ensures

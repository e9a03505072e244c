use Rattle.std.proofs.Common.{◌-◌, length, map}
use Rattle.tv_cases.specs.LinearCases.{leaving}
use Rattle.tv_cases.specs.Systems.{cases_of}
use Rattle.tv_cert.specs.Pieces.{place_of}
use Rattle.tv_cert.specs.Obligations.{step_of}
use Rattle.tv_cert.specs.AboutSystem.{about_of}
use Rattle.tv_cert.specs.OwesViews.{case_falls}
use Rattle.tv_cert.proofs.VisitLemmas.{Ahead}
use Rattle.tv_cert.proofs.visiting.visit_steps.Given as goal

abbrev pub invariant-cases : goal.invariant-cases
invariant-cases g l =
    let system = cases_of l.at.about.now in
    Ahead (g.V.Visitor.passes system) (g.V.Visitor.stops system) g.V.Visitor.room
    (map (step_of l.at.number (about_of system) l.at.piece.now l.into (case_falls l.falls system l.at.piece.now)))
    (leaving (place_of l.at.piece.now) system.cases) l.fn.visitor l.visitor l.k

abbrev pub decreases-cases : goal.decreases-cases
decreases-cases g l = length (leaving (place_of l.at.piece.now) (cases_of l.at.about.now).cases) - l.k

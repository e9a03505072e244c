use Rattle.tv_cases.specs.Systems.{cases_of}
use Rattle.tv_cert.specs.OwesViews.{obligation_by}
use Rattle.tv_cert.proofs.VisitLemmas.{visits_one}
use Rattle.tv_cert.proofs.visiting.visit.Goals as goal

pub returns : goal.returns
returns g c =
    let system = cases_of c.args.at.now.about.now in
    visits_one (g.V.Visitor.passes system) (g.V.Visitor.stops system) g.V.Visitor.room c.visit.result c.args.visitor.now c.visit.new.self (obligation_by system c.args.at.now.number c.args.kind c.args.owes.now) c.visit.ensures.passes c.visit.ensures.stops c.visit.ensures.room

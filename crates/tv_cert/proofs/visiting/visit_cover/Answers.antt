use Rattle.std.proofs.Common.{◌∷◌, [], subst}
use Rattle.tv_linear.specs.Known.{given, as_given}
use Rattle.tv_cases.specs.Systems.{cases_of}
use Rattle.tv_cert.specs.Obligations.{a_cover}
use Rattle.tv_cert.specs.Pieces.{rows_of}
use Rattle.tv_cert.specs.Targets.{owed_into, no_fall}
use Rattle.tv_cert.specs.Visits.{Visits}
use Rattle.tv_cert.proofs.visiting.visit_cover.Goals as goal

pub returns : goal.returns
returns g c =
    let system = cases_of c.args.at.now.about.now in
    let p = c.args.at.now.piece.now in
    subst (λ l. Visits (g.V.Visitor.passes system) (g.V.Visitor.stops system) g.V.Visitor.room c.visit_targets.result c.args.visitor.now (record { node = c.args.at.now.number; kind = c.args.kind; owed = a_cover system.variables (as_given (rows_of p)) (owed_into c.args.into.now l given no_fall) } ∷ []) c.visit_targets.new.visitor) c.location.ensures c.visit_targets.ensures

use Rattle.std.proofs.Common.{◌∷◌, [], map, subst}
use Rattle.std.specs.List.{flat_map}
use Rattle.tv_linear.specs.Known.{given, as_given}
use Rattle.tv_cases.specs.Systems.{cases_of}
use Rattle.tv_cert.specs.declared.node.Kind.TheVariants as kind
use Rattle.tv_cert.specs.NodeViews.{pieces_list}
use Rattle.tv_cert.specs.Obligations.{a_cover}
use Rattle.tv_cert.specs.Pieces.{rows_of}
use Rattle.tv_cert.specs.Targets.{owed_into, no_fall}
use Rattle.tv_cert.specs.Visits.{Visits}
use Rattle.tv_cert.proofs.visiting.visit_joined.Goals as goal

pub returns : goal.returns
returns g c =
    let system = cases_of c.args.at.now.about.now in
    let p = c.args.at.now.piece.now in
    let into = flat_map (λ a. a) (map pieces_list c.args.children.now) in
    subst (λ l. Visits (g.V.Visitor.passes system) (g.V.Visitor.stops system) g.V.Visitor.room c.visit_targets.result c.args.visitor.now (record { node = c.args.at.now.number; kind = kind.Child; owed = a_cover system.variables (as_given (rows_of p)) (owed_into into l given no_fall) } ∷ []) c.visit_targets.new.visitor) c.location.ensures c.visit_targets.ensures

use Rattle.std.proofs.Common.{map}
use Rattle.tv_cases.specs.Systems.{cases_of}
use Rattle.tv_cert.specs.declared.node.Kind.TheVariants as kind
use Rattle.tv_cert.specs.Obligations.{cover_of}
use Rattle.tv_cert.specs.AboutSystem.{about_of}
use Rattle.tv_cert.specs.NodeViews.{pieces_list}
use Rattle.tv_cert.proofs.VisitLemmas.{Ahead}
use Rattle.tv_cert.proofs.visiting.visit_children.Given as goal

abbrev pub invariant-loop-child : goal.invariant-loop-child
invariant-loop-child g l =
    let system = cases_of l.at.about.now in
    Ahead (g.V.Visitor.passes system) (g.V.Visitor.stops system) g.V.Visitor.room
    (λ kids. map (cover_of l.at.number kind.Child (about_of system) l.at.piece.now) (map pieces_list kids))
    l.children l.fn.visitor l.visitor l.child-index

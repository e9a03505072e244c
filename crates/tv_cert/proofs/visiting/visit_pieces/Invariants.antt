use Rattle.std.proofs.Common.{map}
use Rattle.std.specs.List.{flat_map}
use Rattle.tv_cases.specs.Systems.{cases_of}
use Rattle.tv_cert.specs.NodeViews.{pieces_list}
use Rattle.tv_cert.specs.AimViews.{aim_states}
use Rattle.tv_cert.specs.Nodes.{piece_owes}
use Rattle.tv_cert.proofs.VisitLemmas.{Ahead}
use Rattle.tv_cert.proofs.visiting.visit_pieces.Given as goal

abbrev pub invariant-loop-piece : goal.invariant-loop-piece
invariant-loop-piece g l =
    let system = cases_of l.about in
    Ahead (g.V.Visitor.passes system) (g.V.Visitor.stops system) g.V.Visitor.room
    (flat_map (piece_owes l.number system (aim_states l.aim) l.pieces (map pieces_list l.children)))
    l.pieces l.fn.visitor l.visitor l.piece-index

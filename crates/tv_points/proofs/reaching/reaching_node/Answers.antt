use Rattle.std.proofs.Common.{◌∙◌, ◌<◌, ap, subst, true}
use Rattle.tv_cases.specs.Systems.{cases_of}
use Rattle.tv_points.specs.Nodes.{AreEnds}
use Rattle.tv_points.specs.States.{IsState}
use Rattle.tv_points.specs.StatePieces.{state_pieces}
use Rattle.tv_points.proofs.PlaceLemmas.{got_all}
use Rattle.tv_points.proofs.RunMet.{reaching_made}
use Rattle.tv_points.proofs.reaching.reaching_node.Goals as goal

pub returns : goal.returns
returns c =
    let about = cases_of c.args.about.now in
    let r = c.requires in
    reaching_made about c.args.location c.args.states.now r.last c.in_ok-node.node c.in_ok-pieces.pieces.items c.deref.result.now c.in_ok-ends.ends.items c.new-proofs.result.items c.push_run.new.proofs.items c.in-Ok.ensures.more
    c.deref.ensures.value
    (c.in_ok-pieces.ensures ∙ ap (λ n. state_pieces n true c.args.states.now) c.variables-columns.ensures.same)
    c.in_ok-node.ensures
    (subst (λ n. AreEnds n c.args.states.now c.args.location c.in_ok-ends.ends.items) c.variables-columns.ensures.same c.in_ok-ends.ensures)
    c.in-Ok.ensures.parts c.new-proofs.ensures.items c.in-Ok.ensures.each r.states_are.each r.states_are.bounded _ r.as_many r.ends r.at
    (subst (λ l. l < about.locations) r.at (got_all (IsState about) c.args.states.now _ r.last r.states_are.each r.ends).place)

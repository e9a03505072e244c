use Rattle.std.proofs.Common.{◌∙◌, ap, false}
use Rattle.tv_cases.specs.Systems.{cases_of}
use Rattle.tv_points.specs.StatePieces.{state_pieces}
use Rattle.tv_points.proofs.RunMet.{endless_made}
use Rattle.tv_points.proofs.endless.endless_node.Goals as goal

pub returns : goal.returns
returns c =
    endless_made (cases_of c.args.about.now) c.args.states.now c.in_ok-node.node c.in_ok-pieces.pieces.items c.deref.result.now c.new.result.items c.new-proofs.result.items c.push_choices.new.proofs.items c.in-Ok.ensures.more
    c.deref.ensures.value
    (c.in_ok-pieces.ensures ∙ ap (λ n. state_pieces n false c.args.states.now) c.variables.ensures.same)
    c.in_ok-node.ensures c.new.ensures.items c.in-Ok.ensures.parts c.new-proofs.ensures.items c.in-Ok.ensures.each c.requires.states_are.each c.requires.states_are.bounded

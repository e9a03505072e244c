use Rattle.tv_cases.specs.Systems.{cases_of}
use Rattle.tv_lexrank.proofs.Turns.{first_more}
use Rattle.tv_lexrank.proofs.greedy.take_turn.Goals as goal

pub places-preserved : goal.places-preserved
places-preserved c = first_more (cases_of c.args.component.now.about.now) c.args.component.now.known.now.pieces.items c.args.set.now c.places.place c.places.barriers.items c.in-Ok-None.barrier c.in-Ok-None.field-0 c.push_item.new.items.items c.places.invariant c.in-Ok-None.ensures.ranked c.in-Ok-None.field-0-is c.in_ok-push_item-in-Ok-None.ensures

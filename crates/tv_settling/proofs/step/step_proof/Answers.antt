use Rattle.std.proofs.Common.{subst}
use Rattle.tv_shape.specs.Narrow.{CoverNarrow}
use Rattle.tv_settling.proofs.ShownLemmas.{closed_shows}
use Rattle.tv_settling.proofs.step.step_proof.Goals as goal

pub returns-in-Ok-clause-shows : goal.returns-in-Ok-clause-shows
returns-in-Ok-clause-shows c =
    closed_shows c.args.barrier.now c.args.number c.requires c.in-Ok.cover c.in-Ok.ensures.closed (subst CoverNarrow c.tree.ensures.same c.narrow_tree.ensures)

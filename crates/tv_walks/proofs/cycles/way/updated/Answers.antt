use Rattle.std.proofs.Common.{◌∙◌}
use Rattle.tv_refute.proofs.Places.{update_here, update_past}
use Rattle.tv_walks.proofs.cycles.way.updated.Goals as goal

pub returns-then-update-variable : goal.returns-then-update-variable
returns-then-update-variable c = c.loop-update.invariant ∙ update_here c.args.updates.now c.loop-update.update-index c.args.variable c.update-item.result c.loop-update-test.true c.update-item.is c.if-update-variable.true

pub loop-update-preserved : goal.loop-update-preserved
loop-update-preserved c = c.loop-update.invariant ∙ update_past c.args.updates.now c.loop-update.update-index c.args.variable c.update-item.result c.loop-update-test.true c.update-item.is c.if-update-variable.false

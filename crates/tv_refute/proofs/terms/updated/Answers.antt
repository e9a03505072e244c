use Rattle.std.proofs.Common.{◌∙◌}
use Rattle.tv_refute.proofs.Places.{update_here, update_past}
use Rattle.tv_refute.proofs.terms.updated.Goals as goal

pub returns-then-update-v : goal.returns-then-update-v
returns-then-update-v c = c.loop-update.invariant ∙ update_here c.args.updates.now c.loop-update.update-index c.args.v c.update-item.result c.loop-update-test.true c.update-item.is c.if-update-v.true

pub loop-update-preserved : goal.loop-update-preserved
loop-update-preserved c = c.loop-update.invariant ∙ update_past c.args.updates.now c.loop-update.update-index c.args.v c.update-item.result c.loop-update-test.true c.update-item.is c.if-update-v.false

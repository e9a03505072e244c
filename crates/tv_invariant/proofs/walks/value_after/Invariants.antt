use Rattle.std.proofs.Common.{◌≡◌, drop}
use Rattle.tv_linear.specs.Terms.{update_of}
use Rattle.tv_invariant.proofs.walks.value_after.Given as goal

abbrev pub invariant-updates : goal.invariant-updates
invariant-updates l = update_of l.updates l.variable ≡ update_of (drop l.update-index l.updates) l.variable

use Rattle.std.proofs.Common.{◌≡◌, drop}
use Rattle.tv_linear.specs.Terms.{update_of}
use Rattle.tv_walks.proofs.cycles.way.updated.Given as goal

abbrev pub invariant-loop-update : goal.invariant-loop-update
invariant-loop-update l = update_of l.updates l.variable ≡ update_of (drop l.update-index l.updates) l.variable

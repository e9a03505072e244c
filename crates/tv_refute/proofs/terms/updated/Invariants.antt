use Rattle.std.proofs.Common.{◌≡◌, drop}
use Rattle.tv_linear.specs.Terms.{update_of}
use Rattle.tv_refute.proofs.terms.updated.Given as goal

abbrev pub invariant-loop-update : goal.invariant-loop-update
invariant-loop-update l = update_of l.updates l.v ≡ update_of (drop l.update-index l.updates) l.v

use Rattle.std.proofs.Common.{◌≡◌, drop}
use Rattle.tv_formula.specs.Forms.{are_local}
use Rattle.tv_formula.specs.Views.{properties}
use Rattle.tv_finitely.proofs.assumable.+local.Given as goal

abbrev pub invariant-are_local-loop-part : goal.invariant-are_local-loop-part
invariant-are_local-loop-part l = are_local (properties l.parts) ≡ are_local (properties (drop l.part-index l.parts))

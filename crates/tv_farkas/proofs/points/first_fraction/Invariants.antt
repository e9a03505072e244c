use Rattle.std.proofs.Common.{ℕ, ◌<◌}
use Rattle.tv_farkas.specs.Paths.{IsWholeAt}
use Rattle.tv_farkas.proofs.points.first_fraction.Given as goal

abbrev pub invariant-columns : goal.invariant-columns
invariant-columns l = (j : ℕ) → j < l.column → IsWholeAt l.values l.fn.scale j

use Rattle.std.proofs.Common.{◌≡◌}
use Rattle.tv_farkas.specs.RefutationSystem.{numbers_below}
use Rattle.tv_farkas.proofs.refutation.numbers_of.Given as goal

abbrev pub invariant-columns : goal.invariant-columns
invariant-columns l = l.numbers ≡ numbers_below l.column l.rows

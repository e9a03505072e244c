use Rattle.std.proofs.Common.{◌≡◌, drop, nat_le}
use Rattle.tv_program.specs.Limits.{conditions_depth}
use Rattle.tv_formula.specs.Views.{properties}
use Rattle.tv_finitely.specs.Doubling.{conditions_at}
use Rattle.tv_finitely.proofs.assumable.+room.Given as goal

abbrev pub invariant-are_within-loop-part : goal.invariant-are_within-loop-part
invariant-are_within-loop-part l = nat_le (conditions_depth (conditions_at 0 (properties l.parts))) l.room ≡ nat_le (conditions_depth (conditions_at 0 (properties (drop l.part-index l.parts)))) l.room

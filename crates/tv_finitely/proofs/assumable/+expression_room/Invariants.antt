use Rattle.std.proofs.Common.{◌≡◌, drop, nat_le}
use Rattle.tv_program.specs.Limits.{expressions_depth}
use Rattle.tv_program.specs.Views.{expressions}
use Rattle.tv_finitely.proofs.assumable.+expression_room.Given as goal

abbrev pub invariant-are_expressions_within-loop-part : goal.invariant-are_expressions_within-loop-part
invariant-are_expressions_within-loop-part l = nat_le (expressions_depth (expressions l.parts)) l.room ≡ nat_le (expressions_depth (expressions (drop l.part-index l.parts))) l.room

use Rattle.std.proofs.Common.{◌≡◌, ◌++◌, drop, map}
use Rattle.tv_program.specs.Views.{condition}
use Rattle.tv_finitely.proofs.copies.+condition_copies.Given as goal

abbrev pub invariant-copies_of_conditions-loop-part : goal.invariant-copies_of_conditions-loop-part
invariant-copies_of_conditions-loop-part l = map condition l.copies.items ++ map condition (drop l.part-index l.parts) ≡ map condition l.parts

use Rattle.std.proofs.Common.{◌≡◌, ◌++◌, drop, map}
use Rattle.tv_program.specs.Views.{expression}
use Rattle.tv_finitely.proofs.copies.+expression_copies.Given as goal

abbrev pub invariant-copies_of-loop-part : goal.invariant-copies_of-loop-part
invariant-copies_of-loop-part l = map expression l.copies.items ++ map expression (drop l.part-index l.parts) ≡ map expression l.parts

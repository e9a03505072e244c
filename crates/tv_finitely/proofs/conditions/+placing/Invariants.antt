use Rattle.std.proofs.Common.{◌≡◌, ◌++◌, drop, map}
use Rattle.tv_program.specs.Views.{condition}
use Rattle.tv_formula.specs.Views.{property}
use Rattle.tv_finitely.specs.Doubling.{condition_at}
use Rattle.tv_finitely.proofs.conditions.+placing.Given as goal

abbrev pub invariant-conditions_at-loop-part : goal.invariant-conditions_at-loop-part
invariant-conditions_at-loop-part l = map condition l.all.items ++ map (condition_at l.location) (map property (drop l.part-index l.parts)) ≡ map (condition_at l.location) (map property l.parts)

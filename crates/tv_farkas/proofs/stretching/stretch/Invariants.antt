use Rattle.std.proofs.Common.{◌≡◌, ◌++◌, drop}
use Rattle.tv_farkas.specs.Stretching.{stretched}
use Rattle.tv_farkas.proofs.stretching.stretch.Given as goal

abbrev pub invariant-rows : goal.invariant-rows
invariant-rows l = stretched l.repeated l.fn.multipliers ≡ l.stretched.items ++ stretched (drop l.again-index l.repeated) l.left

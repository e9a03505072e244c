use Rattle.std.proofs.Common.{◌≡◌, ◌++◌, map, take}
use Rattle.tv_rank.specs.Questions.{ways_of}
use Rattle.tv_nested.specs.NestedSystem.{entry}
use Rattle.tv_nested.proofs.system.push_row.Given as goal

abbrev pub invariant-unknowns : goal.invariant-unknowns
invariant-unknowns l = l.numbers ≡ l.fn.numbers ++ map (entry (ways_of l.asked) l.line) (take l.unknown-index l.unknowns)

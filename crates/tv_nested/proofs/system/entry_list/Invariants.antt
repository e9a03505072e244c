use Rattle.std.proofs.Common.{◌≡◌, take}
use Rattle.tv_rank.specs.Questions.{ways_of}
use Rattle.tv_nested.specs.NestedSystem.{entry_rows}
use Rattle.tv_nested.proofs.system.entry_list.Given as goal

abbrev pub invariant-lines : goal.invariant-lines
invariant-lines l = l.numbers ≡ entry_rows (ways_of l.asked) l.unknowns (take l.line-index l.lines)

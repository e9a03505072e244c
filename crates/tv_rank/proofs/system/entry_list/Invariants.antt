use Rattle.std.proofs.Common.{◌≡◌, take}
use Rattle.tv_rank.specs.Questions.{ways_of}
use Rattle.tv_rank.specs.RankingSystem.{entry_rows}
use Rattle.tv_rank.proofs.system.entry_list.Given as goal

abbrev pub invariant-lines : goal.invariant-lines
invariant-lines l = l.numbers ≡ entry_rows (ways_of l.asked) l.asked.falling l.unknowns (take l.line-index l.lines)

use Rattle.std.proofs.Common.{◌≡◌, ◌++◌, map, take}
use Rattle.tv_rank.specs.Questions.{ways_of}
use Rattle.tv_rank.specs.RankingSystem.{entry}
use Rattle.tv_rank.proofs.system.push_row.Given as goal

abbrev pub invariant-unknowns : goal.invariant-unknowns
invariant-unknowns l = l.numbers ≡ l.fn.numbers ++ map (entry (ways_of l.asked) l.asked.falling l.line) (take l.unknown-index l.unknowns)

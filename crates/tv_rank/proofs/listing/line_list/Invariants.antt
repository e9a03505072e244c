use Rattle.std.proofs.Common.{◌≡◌}
use Rattle.tv_rank.specs.Questions.{ways_of}
use Rattle.tv_rank.specs.RankingSystem.{step_lines}
use Rattle.tv_rank.proofs.listing.line_list.Given as goal

abbrev pub invariant-places : goal.invariant-places
invariant-places l = l.items.items ≡ step_lines (ways_of l.asked) l.asked.variables l.place

use Rattle.std.proofs.Common.{◌≡◌, length, ◌+◌}
use Rattle.tv_rank.specs.Given.{lists}
use Rattle.tv_rank.specs.Questions.{ways_of}
use Rattle.tv_rank.specs.RankingSystem.{steps_below}
use Rattle.tv_rank.specs.Reading.{lines_read}
use Rattle.tv_rank.proofs.reading.read_lines.Given as goal

abbrev pub invariant-places : goal.invariant-places
invariant-places l = record {
  lines : lists l.lines.items ≡ lines_read (ways_of l.asked) l.values l.start l.step;
  place : l.place ≡ l.start + length (steps_below (ways_of l.asked) l.step);
}

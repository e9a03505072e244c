use Rattle.std.proofs.Common.{◌≡◌}
use Rattle.tv_nested.specs.Reading.{lines_of_cases}
use Rattle.tv_nested.specs.ReadOff.{line_place, lines_until}
use Rattle.tv_nested.proofs.reading.lines_with.Given as goal

abbrev pub invariant-places : goal.invariant-places
invariant-places l = record {
  lines : lines_of_cases l.lines.items ≡ lines_until l.solved l.step;
  place : l.place ≡ line_place l.solved l.step;
}

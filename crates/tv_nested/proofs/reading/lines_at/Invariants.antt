use Rattle.std.proofs.Common.{◌≡◌, ◌+◌, ◌*◌}
use Rattle.tv_rank.specs.Given.{lists}
use Rattle.tv_nested.specs.ReadOff.{way_of, size_at, line_place}
use Rattle.tv_nested.proofs.reading.lines_at.Given as goal

abbrev pub invariant-identities : goal.invariant-identities
invariant-identities l = record {
  lines : lists l.lines.items ≡ way_of l.solved l.step l.index;
  place : l.place ≡ line_place l.solved l.step + l.index * size_at l.solved l.step;
}

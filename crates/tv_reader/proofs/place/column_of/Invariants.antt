use Rattle.std.proofs.Common.{◌≡◌, ◌≤◌, ◌+◌, take}
use Rattle.std.specs.Prelude.{reverse, not, ◌==◌}
use Rattle.std.specs.List.{prefix_len}
use Rattle.tv_reader.proofs.place.column_of.Given as goal

abbrev pub invariant-loop-byte : goal.invariant-loop-byte
invariant-loop-byte l = record {
  counted : l.column ≡ 1 + prefix_len (λ b. not (b == 10)) (reverse (take l.byte-index l.front));
  short : l.column ≤ l.byte-index + 1;
}

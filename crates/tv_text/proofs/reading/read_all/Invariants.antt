use Rattle.std.proofs.Common.{◌≤◌, vec_len, ◌+◌, ◌-◌}
use Rattle.tv_text.specs.Stream.{Gave}
use Rattle.tv_text.proofs.reading.read_all.Given as goal

abbrev pub invariant-pieces : goal.invariant-pieces
invariant-pieces g l = record {
  gave : Gave (g.S.Source.seen l.fn.source) (g.S.Source.seen l.source) l.text.items;
  short : vec_len l.text ≤ l.limit;
  later : g.S.Source.faults l.fn.source ≤ g.S.Source.faults l.source;
}

abbrev pub decreases-pieces : goal.decreases-pieces
decreases-pieces g l = l.limit + 1 - vec_len l.text

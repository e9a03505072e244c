use Rattle.std.proofs.Common.{◌≤◌, ◌-◌, length, take}
use Rattle.tv_text.specs.Stream.{Took}
use Rattle.tv_text.proofs.writing.write_all.Given as goal

abbrev pub invariant-pieces : goal.invariant-pieces
invariant-pieces g l = record {
  within : l.at ≤ length l.bytes;
  took : Took (g.K.Sink.seen l.fn.sink) (g.K.Sink.seen l.sink) (take l.at l.bytes);
  later : g.K.Sink.faults l.fn.sink ≤ g.K.Sink.faults l.sink;
}

abbrev pub decreases-pieces : goal.decreases-pieces
decreases-pieces g l = length l.bytes - l.at

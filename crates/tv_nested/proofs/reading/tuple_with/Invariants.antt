use Rattle.std.proofs.Common.{◌≡◌}
use Rattle.tv_nested.specs.Reading.{tuple_of}
use Rattle.tv_nested.specs.ReadOff.{tuple_until}
use Rattle.tv_nested.proofs.reading.tuple_with.Given as goal

abbrev pub invariant-terms : goal.invariant-terms
invariant-terms l = tuple_of l.tuple.items ≡ tuple_until l.solved l.number

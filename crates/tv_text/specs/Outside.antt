use Rattle.std.specs.Prelude.{ℕ, List, Option}
use Rattle.tv_text.specs.Stream.{Seen}

-- a source over a reader, or a sink over a writer
pub record OutsideState : Type 0 where
  -- what the reader has left, or the writer holds, where that is known
  pub known : Option (List ℕ)
  -- the bytes that its calls handed out, or took
  pub told : List ℕ
  -- how many calls have failed
  pub faults : ℕ

abbrev pub outside_seen : OutsideState → Seen
outside_seen s = record { known = s.known; told = s.told }

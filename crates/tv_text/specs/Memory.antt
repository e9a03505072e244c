use Rattle.std.specs.Prelude.{ℕ, ◌-◌, List, Option, Some, length}
use Rattle.tv_text.specs.Stream.{Seen}

-- a source in memory
pub record SourceState : Type 0 where
  -- the bytes not yet read
  pub held : List ℕ
  -- the bytes that were read
  pub told : List ℕ
  -- the most bytes that one call reads
  pub piece : ℕ
  -- the numbers of the calls that fail
  pub fails : List ℕ
  -- the number of the next call
  pub call : Option ℕ
  -- how many calls have failed
  pub faults : ℕ

-- a sink in memory
pub record SinkState : Type 0 where
  -- the bytes written
  pub written : List ℕ
  -- the most bytes that it holds
  pub room : ℕ
  -- the most bytes that one call takes
  pub piece : ℕ
  -- the numbers of the calls that fail
  pub fails : List ℕ
  -- the number of the next call
  pub call : Option ℕ
  -- how many calls have failed
  pub faults : ℕ

-- how many more bytes a sink holds
abbrev pub room_left : SinkState → ℕ
room_left sink = sink.room - length sink.written

-- all of a source in memory is known
abbrev pub source_seen : SourceState → Seen
source_seen s = record { known = Some s.held; told = s.told }

-- a sink in memory holds what its calls took
abbrev pub sink_seen : SinkState → Seen
sink_seen s = record { known = Some s.written; told = s.written }

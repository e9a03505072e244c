-- What passes through streams of bytes.
use Rattle.std.specs.Prelude.{◌≡◌, ℕ, ◌+◌, ◌-◌, ◌^◌, ◌≤◌, List, ◌++◌, Option, min, length}
use Rattle.std.specs.Io.KnownBytes.{Consumes, Appends}

-- what a stream says about itself
pub record Seen : Type 0 where
  -- the bytes that a source has not yet handed out, or that a sink holds, where that is known
  pub known : Option (List ℕ)
  -- the bytes that came out of the calls of a source, or that the calls of a sink took, in order
  pub told : List ℕ

-- between two states of a source exactly these bytes came out of its calls, and it has lost them
pub record Gave (old new : Seen) (bytes : List ℕ) : Type 0 where
  pub told : new.told ≡ old.told ++ bytes
  pub lost : Consumes old.known new.known bytes

-- a source handed out some bytes, and lost them
pub record GaveSome (old new : Seen) : Type 0 where
  pub bytes : List ℕ
  pub gave : Gave old new bytes

-- between two states of a sink its calls took exactly these bytes, and it holds them after the others
pub record Took (old new : Seen) (bytes : List ℕ) : Type 0 where
  pub told : new.told ≡ old.told ++ bytes
  pub held : Appends old.known new.known bytes

-- how many bytes passed between two states of a stream
abbrev pub count_passed : Seen → Seen → ℕ
count_passed old new = length new.told - length old.told

-- A count of faults has risen. A stream of finite size may fail for ever, so no count in it can rise
-- without end: one that has come to the last number of 64 bits stays there.
abbrev pub Rose : ℕ → ℕ → Type 0
Rose old new = min (old + 1) (2 ^ 64 - 1) ≤ new

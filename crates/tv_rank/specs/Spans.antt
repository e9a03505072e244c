use Rattle.std.specs.Prelude.{◌≡◌, ℕ, ◌<◌, ◌≤◌, false}
use Rattle.tv_rank.specs.declared.question.Question.{Question}
use Rattle.tv_rank.specs.declared.span.Span.{Span}
use Rattle.tv_rank.specs.Questions.{ways_of, many_of}
use Rattle.tv_rank.specs.Ways.{Way, touches}

-- the second span has all locations of the first, and this one, and it ends where the first does or after this one
pub record Reaches (span : Span) (location : ℕ) (further : Span) : Type 0 where
  pub low : further.low ≤ span.low
  pub high : span.high ≤ further.high
  pub from : further.low ≤ location
  pub past : location < further.high
  pub within : (n : ℕ) → span.high ≤ n → location < n → further.high ≤ n

-- none of the first ways starts or ends outside the span, which has some location and lies below a bound
pub record Spans (ways : ℕ → Way) (many locations : ℕ) (span : Span) : Type 0 where
  pub none_below : (l : ℕ) → l < span.low → touches ways many l ≡ false
  pub none_past : (l : ℕ) → span.high ≤ l → touches ways many l ≡ false
  pub some : span.low < span.high
  pub within : span.high ≤ locations

abbrev pub IsSpanOf : Question → Span → Type 0
IsSpanOf q span = Spans (ways_of q) (many_of q) q.locations span

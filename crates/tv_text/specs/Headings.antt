-- Where the certificate begins after a program.
use Rattle.std.specs.Prelude.{◌≡◌, ℕ, ◌-◌, ◌<◌, Bool, true, ◌||◌, List, [], ◌∷◌, ◌++◌, take, drop, slice_index, ◌==◌, codes}

-- what is left after the end of a line: an LF, which may have a CR before it, or the end of the input
pub data EndsLine : List ℕ → List ℕ → Type 0 where
  at_end : EndsLine [] []
  feed : {rest : List ℕ} → EndsLine (10 ∷ rest) rest
  return_and_feed : {rest : List ℕ} → EndsLine (13 ∷ 10 ∷ rest) rest

-- the text begins with the line CERTIFICATE:, after which this is left
pub record BeginsWithHeading (text rest : List ℕ) : Type 0 where
  pub behind : List ℕ
  pub heading : text ≡ codes "CERTIFICATE:" ++ behind
  pub ends : EndsLine behind rest

-- a line of the text starts at this place: it is the first, or the byte before it is an LF
abbrev pub starts_line : List ℕ → ℕ → Bool
starts_line text at = at == 0 || slice_index text (at - 1) == 10

-- the line CERTIFICATE: stands at this place of the text, and this is left after it
pub record IsHeadingAt (text : List ℕ) (at : ℕ) (rest : List ℕ) : Type 0 where
  pub starts : starts_line text at ≡ true
  pub begins : BeginsWithHeading (drop at text) rest

-- The text of the program is what stands before the first line CERTIFICATE:, and that of the certificate is what follows it.
-- Without such a line all is the program's.
pub data IsSplit : List ℕ → List ℕ → List ℕ → Type 0 where
  parted : {text certificate : List ℕ} (at : ℕ) → IsHeadingAt text at certificate → ((k : ℕ) (rest : List ℕ) → k < at → IsHeadingAt text k rest → ⊥) → IsSplit text (take at text) certificate
  whole : {text : List ℕ} → ((k : ℕ) (rest : List ℕ) → IsHeadingAt text k rest → ⊥) → IsSplit text text []

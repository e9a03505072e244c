use Rattle.std.specs.Prelude.{ℕ, ◌*◌, ◌^◌, ◌≤◌, ℤ, pos, ◌+ℤ◌, ◌*ℤ◌, unsigned_abs}
use Rattle.tv_refute.specs.declared.met.Wide.{Wide}

-- the integer of three parts
abbrev pub whole : ℤ → ℤ → ℤ → ℤ
whole high middle low = ((high *ℤ pos (2 ^ 124)) +ℤ (middle *ℤ pos (2 ^ 62))) +ℤ low

-- the number that is meant
abbrev pub whole_of : Wide → ℤ
whole_of n = whole n.high n.middle n.low

-- each part is as small as that of a sum of `parts` products
pub record IsSmall (parts : ℕ) (n : Wide) : Type 0 where
  pub high : unsigned_abs n.high ≤ parts * 2 ^ 66
  pub middle : unsigned_abs n.middle ≤ parts * 2 ^ 66
  pub low : unsigned_abs n.low ≤ parts * 2 ^ 66

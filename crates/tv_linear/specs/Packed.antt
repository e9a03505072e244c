use Rattle.std.specs.Prelude.{ℕ, zero, suc, ◌+◌, ◌*◌, ◌-◌, ◌^◌, ◌<◌, ◌≤◌, List, [], ◌∷◌, ◌++◌, take, drop, length, All, ℤ, pos, slice_index_or}
use Rattle.std.specs.List.{flat_map}
use Rattle.tv_linear.specs.Linear.{Linear, linear, IsWithin}

-- the numbers of rows, one row after another, each with its constant last
abbrev pub packed : List Linear → List ℤ
packed rows = flat_map (λ r. r.coefficients ++ r.constant ∷ []) rows

-- the row of the first n numbers, with the next one as its constant
abbrev pub first_row : ℕ → List ℤ → Linear
first_row n zs = linear (take n zs) (slice_index_or zs n (pos 0))

-- the `count` rows of n columns with which a list of numbers begins, one after another, each with its constant last
abbrev pub unpacked : ℕ → ℕ → List ℤ → List Linear
unpacked n zero zs = []
unpacked n (suc count) zs = first_row n zs ∷ unpacked n count (drop (suc n) zs)

-- the numbers begin with `count` rows of n columns, each number is below 2^62 in magnitude, and the columns are counted by 32 bits
pub record ArePacked (n count : ℕ) (zs : List ℤ) : Type 0 where
  pub enough : count * (n + 1) ≤ length zs
  pub narrow : All (IsWithin 62) zs
  pub bounded : n < 2 ^ 32 - 1

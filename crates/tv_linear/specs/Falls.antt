use Rattle.std.specs.Prelude.{◌≡◌, ◌⊎◌, ◌+◌, ℕ, zero, suc, ◌<◌, List, [], ◌∷◌, length, map, ℤ, pos, negsuc, ◌+ℤ◌, ◌≤ℤ◌, slice_index_or, Option, None, Some}
use Rattle.std.specs.Option.{option_map}
use Rattle.tv_linear.specs.Linear.{Linear, linear}
use Rattle.tv_linear.specs.Known.{Known, given, less}

-- The ranks, as many before as after, fall at place j, counted from 0: no rank before it grows, it falls by at least 1, and it is at
-- least 0 before.
pub record FallsAt (old new : List ℤ) (j : ℕ) : Type 0 where
  pub as_many : length new ≡ length old
  pub inside : j < length old
  pub none_grows : (i : ℕ) → i < j → slice_index_or new i (pos 0) ≤ℤ slice_index_or old i (pos 0)
  pub falls : (slice_index_or new j (pos 0) +ℤ pos 1) ≤ℤ slice_index_or old j (pos 0)
  pub not_below : pos 0 ≤ℤ slice_index_or old j (pos 0)

-- the ranks fall at some place
abbrev pub Falls : List ℤ → List ℤ → Type 0
Falls old new = (j : ℕ) × FallsAt old new j

-- a rank plus 1, and 0 where that is negative
abbrev pub measure_of : ℤ → ℕ
measure_of (pos n) = n + 1
measure_of (negsuc n) = 0

-- what gets lexicographically less where the ranks fall
abbrev pub rank_measure : List ℤ → List ℕ
rank_measure ranks = map measure_of ranks

-- at some place the first list is less than the second, and before it the two are equal
abbrev pub IsLexicographicallyBelow : List ℕ → List ℕ → Type 0
IsLexicographicallyBelow [] ys = ⊥
IsLexicographicallyBelow (x ∷ xs) [] = ⊥
IsLexicographicallyBelow (x ∷ xs) (y ∷ ys) = (x < y) ⊎ ((x ≡ y) × IsLexicographicallyBelow xs ys)

-- the row without columns whose value is 0
abbrev pub zero_row : Linear
zero_row = linear [] (pos 0)

-- the rows that show the fall at a place, counted from 0: new_i - old_i for each place before it, new_j -
-- old_j + 1, and -old_j
abbrev pub fall_rows_at : List Known → List Known → ℕ → Option (List Known)
fall_rows_at [] new j = None
fall_rows_at (f ∷ old) [] j = None
fall_rows_at (f ∷ old) (g ∷ new) zero = Some (less g f (pos 1) ∷ less (given zero_row) f (pos 0) ∷ [])
fall_rows_at (f ∷ old) (g ∷ new) (suc j) = option_map (λ rows. less g f (pos 0) ∷ rows) (fall_rows_at old new j)

-- the rows that show fall j, which are counted from 1
abbrev pub fall_rows : List Known → List Known → ℕ → Option (List Known)
fall_rows old new zero = None
fall_rows old new (suc j) = fall_rows_at old new j

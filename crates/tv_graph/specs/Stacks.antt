use Rattle.std.specs.Prelude.{◌≡◌, ℕ, ◌-◌, ◌<◌, List, length, take, slice_index}

-- some place of the list has this number
abbrev pub Has : List ℕ → ℕ → Type 0
Has xs x = (i : ℕ) × (i < length xs) × (slice_index xs i ≡ x)

-- the list ends with this number
pub record IsLastOf (xs : List ℕ) (x : ℕ) : Type 0 where
  pub some : 0 < length xs
  pub is : x ≡ slice_index xs (length xs - 1)

-- each number is greater than those before it
pub record IsRising (xs : List ℕ) : Type 0 where
  pub rises : (i j : ℕ) → i < j → j < length xs → slice_index xs i < slice_index xs j

-- ys is xs without some last numbers, each above q
pub data Cuts (q : ℕ) : List ℕ → List ℕ → Type 0 where
  whole : (xs : List ℕ) → Cuts q xs xs
  less : (xs ys : List ℕ) → 0 < length xs → q < slice_index xs (length xs - 1) → Cuts q (take (length xs - 1) xs) ys → Cuts q xs ys

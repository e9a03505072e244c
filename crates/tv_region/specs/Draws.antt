-- Columns that are eliminated by Fourier and Motzkin's rule.
use Rattle.std.specs.Prelude.{◌≡◌, ◌⊎◌, ℕ, ◌+◌, ◌≤◌, List, ◌++◌, length, ℤ, pos, ◌<ℤ◌, Bool, true}
use Rattle.tv_linear.specs.Linear.{Linear, columns, IsNarrow}
use Rattle.tv_linear.specs.Tight.{tight}
use Rattle.tv_region.specs.Met.{meets, all_met, Has}
use Rattle.tv_region.specs.Made.{IsWideRow, last_of, shortened, cancelled, IsOpposite}
use Rattle.tv_region.specs.Differences.{IsDifference}

-- each of the rows has the number in column n
abbrev pub AllEnd : ℕ → ℤ → List Linear → Type 0
AllEnd n value rows = (r : Linear) → Has rows r → last_of n r ≡ value

-- the sum that cancels column n, without that column and tightened
abbrev pub sum_row : ℕ → Linear → Linear → Linear
sum_row n p q = tight (shortened n (cancelled n p q))

-- of rows over w columns the row is one, or made of them by sums and by leaving out the last column, so that it is over n columns
pub data Drawn (w : ℕ) (rows : List Linear) : ℕ → Linear → Type 0 where
  drawn_one : (r : Linear) → Has rows r → Drawn w rows w r
  drawn_sum : (n : ℕ) (p q : Linear) → IsOpposite n p q → last_of n (cancelled n p q) ≡ pos 0 → IsNarrow (cancelled n p q) →
      IsNarrow (sum_row n p q) → Drawn w rows (n + 1) p → Drawn w rows (n + 1) q → Drawn w rows n (sum_row n p q)
  drawn_short : (n : ℕ) (r : Linear) → last_of n r ≡ pos 0 → Drawn w rows (n + 1) r → Drawn w rows n (shortened n r)

-- the column is the first at which such a sum reaches 2^62
abbrev pub IsWideSum : ℕ → Linear → Linear → ℕ → Type 0
IsWideSum n p q column = IsOpposite n p q × IsWideRow (cancelled n p q) column

-- the column is such a one of the sum of an upper row and a lower one
abbrev pub IsWideAmong : ℕ → List Linear → List Linear → ℕ → Type 0
IsWideAmong n uppers lowers column = (u : Linear) × (l : Linear) × Has uppers u × Has lowers l × IsWideSum n u l column

-- the column is such a one of a sum that cancels one of the columns from n on, of rows that are made of those over w columns
pub record IsWideDrawn (n w : ℕ) (rows : List Linear) (column : ℕ) : Type 0 where
  pub last : ℕ
  pub behind : n ≤ last
  pub first : Linear
  pub second : Linear
  pub from_first : Drawn w rows (last + 1) first
  pub from_second : Drawn w rows (last + 1) second
  pub wide : IsWideSum last first second column

-- the rows by their numbers in column n, which is the last; where that is 0 the row is without it
pub record IsParted (n : ℕ) (rows uppers lowers rest : List Linear) : Type 0 where
  pub up : (r : Linear) → Has uppers r → Has rows r × (pos 0 <ℤ last_of n r)
  pub low : (r : Linear) → Has lowers r → Has rows r × (last_of n r <ℤ pos 0)
  pub none : (r : Linear) → Has rest r → (s : Linear) × Has rows s × (last_of n s ≡ pos 0) × (shortened n s ≡ r)
  pub whole : (s : Linear) → Has rows s → Has uppers s ⊎ (Has lowers s ⊎ (Has rest (shortened n s) × (last_of n s ≡ pos 0)))

-- the row is the sum of an upper row and a lower one
pub record IsSumAmong (n : ℕ) (uppers lowers : List Linear) (r : Linear) : Type 0 where
  pub upper : Linear
  pub lower : Linear
  pub high : Has uppers upper
  pub low : Has lowers lower
  pub narrow : IsNarrow (cancelled n upper lower)
  pub tightened : IsNarrow (sum_row n upper lower)
  pub is : sum_row n upper lower ≡ r

-- the sums of the upper and the lower rows are added
pub record IsSummed (n : ℕ) (uppers lowers rest out : List Linear) : Type 0 where
  pub kept : (xs : List ℤ) → all_met xs out ≡ true → all_met xs rest ≡ true
  pub sums : (xs : List ℤ) → all_met xs out ≡ true → (u l : Linear) → Has uppers u → Has lowers l → meets xs (sum_row n u l) ≡ true
  pub all : (xs : List ℤ) → all_met xs rest ≡ true → ((u l : Linear) → Has uppers u → Has lowers l → meets xs (sum_row n u l) ≡ true) → all_met xs out ≡ true
  pub from : (r : Linear) → Has out r → Has rest r ⊎ IsSumAmong n uppers lowers r

-- The rows over n columns are met where the others, over k more, are met with some numbers there; and where the elimination is exact only
-- there. That of differences is exact.
pub record IsProjected (n k : ℕ) (rows out : List Linear) (exact : Bool) : Type 0 where
  pub met : (xs ds : List ℤ) → length xs ≡ n → length ds ≡ k → all_met (xs ++ ds) rows ≡ true → all_met xs out ≡ true
  pub lifted : exact ≡ true → (xs : List ℤ) → length xs ≡ n → all_met xs out ≡ true → (ds : List ℤ) × (length ds ≡ k) × (all_met (xs ++ ds) rows ≡ true)
  pub differences : ((r : Linear) → Has rows r → IsDifference r) → exact ≡ true
  pub from : (r : Linear) → Has out r → Drawn (n + k) rows n r
  pub wide : ((r : Linear) → Has rows r → columns r ≡ n + k) → (r : Linear) → Has out r → columns r ≡ n

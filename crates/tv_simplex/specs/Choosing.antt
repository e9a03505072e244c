use Rattle.std.specs.Prelude.{◌≡◌, ℕ, ◌+◌, ◌<◌, ◌≤◌, List, ℤ, pos, ◌-ℤ◌, ◌*ℤ◌, ◌<ℤ◌, ◌≤ℤ◌}
use Rattle.std.specs.declared.cmp.Ordering.{Ordering}
use Rattle.std.specs.declared.cmp.Ordering.TheVariants.{Less, Equal, Greater}
use Rattle.tv_simplex.specs.Chains.{LeadsAbove, order, column}
use Rattle.tv_simplex.specs.Orders.{LeastOf}
use Rattle.tv_simplex.specs.Ratios.{Ratio, IsRatio, Shows}

-- no entry of the row in the first n columns is negative
abbrev pub NoneNegative : (ℕ → Ratio) → ℕ → Type 0
NoneNegative row n = (j : ℕ) → j < n → pos 0 ≤ℤ (row j).numerator

-- c is the first of the first n columns with a negative entry in the row
pub record IsFirstNegative (row : ℕ → Ratio) (n c : ℕ) : Type 0 where
  pub within : c < n
  pub negative : (row c).numerator <ℤ pos 0
  pub first : NoneNegative row c

-- the numbers v over the scale are the `last + 1` fractions of the row
abbrev pub IsPicture : ℕ → (ℕ → Ratio) → (ℕ → ℤ) → ℤ → Type 0
IsPicture last row v scale = (j : ℕ) → j ≤ last → IsRatio (row j) (v j) scale

-- the sign of a number as an order: a difference above 0 says that the first is less
abbrev pub IsSignOf : Ordering → ℤ → Type 0
IsSignOf Less z = pos 0 <ℤ z
IsSignOf Equal z = z ≡ pos 0
IsSignOf Greater z = z <ℤ pos 0

-- how the quotients of two rows by their entries in column c compare at the place o
abbrev pub difference_at : ℕ → (ℕ → ℤ) → (ℕ → ℤ) → ℕ → ℤ
difference_at c u v o = u c *ℤ v o -ℤ v c *ℤ u o

-- the order of the quotients of two rows at a column, in every picture of the rows over one scale
abbrev pub ComparesAt : ℕ → ℕ → ℕ → (ℕ → Ratio) → (ℕ → Ratio) → Ordering → Type 0
ComparesAt last c o first second order =
    (u v : ℕ → ℤ) (scale : ℤ) → pos 0 <ℤ scale → IsPicture last first u scale → IsPicture last second v scale →
    IsSignOf order (difference_at c u v o)

-- the order of two fractions, each divided by another, is that of two rows at a column where these are their entries
abbrev pub OrdersQuotients : Ratio → Ratio → Ratio → Ratio → Ordering → Type 0
OrdersQuotients left left_pivot right right_pivot order =
    (last c o : ℕ) (first second : ℕ → Ratio) → c ≤ last → o ≤ last → left ≡ first o → right ≡ second o →
    left_pivot ≡ first c → right_pivot ≡ second c → ComparesAt last c o first second order

-- the lexicographic order of two lists of numbers by their differences
abbrev pub IsLexicographic : ℕ → (ℕ → ℤ) → Ordering → Type 0
IsLexicographic m d Less = LeadsAbove m d
IsLexicographic m d Equal = (q : ℕ) → q ≤ m → d q ≡ pos 0
IsLexicographic m d Greater = LeadsAbove m (λ q. pos 0 -ℤ d q)

-- the lexicographic order of the quotients of two rows: the right side first, then the artificial columns
abbrev pub Compares : ℕ → ℕ → ℕ → (ℕ → Ratio) → (ℕ → Ratio) → Ordering → Type 0
Compares m n c first second result =
    (u v : ℕ → ℤ) (scale : ℤ) → pos 0 <ℤ scale → IsPicture (n + m) first u scale → IsPicture (n + m) second v scale →
    IsLexicographic m (λ q. difference_at c u v (order m n q)) result

-- none of the first k rows has an entry above 0 in the column
abbrev pub NoneAbove : (ℕ → ℕ → Ratio) → ℕ → ℕ → Type 0
NoneAbove read c k = (i : ℕ) → i < k → (read i c).numerator ≤ℤ pos 0

-- in every tableau that is read, r is the least of the first k rows
pub record IsLeast (m n : ℕ) (read : ℕ → ℕ → Ratio) (c k r : ℕ) : Type 0 where
  pub within : r < k
  pub above : pos 0 <ℤ (read r c).numerator
  pub least : (a : ℕ → ℕ → ℤ) (b : List ℕ) (bs : List (List ℕ)) (x : Shows a m n b bs read) →
      LeastOf a m n (column b) x.table c k r

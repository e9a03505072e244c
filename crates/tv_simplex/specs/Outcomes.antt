use Rattle.std.specs.Prelude.{◌≡◌, ◌⊎◌, ℕ, ◌+◌, ◌^◌, ◌<◌, ◌≤◌, List, [], ◌∷◌, length, cond, nat_lt, get_or, ℤ, pos, ◌*ℤ◌, ◌<ℤ◌, ◌≤ℤ◌, unsigned_abs}
use Rattle.std.specs.List.{AllByRecursion}
use Rattle.tv_simplex.specs.Sums.{total}
use Rattle.tv_simplex.specs.Systems.{Equations, entry_at, right_at, sign, matrix}
use Rattle.tv_simplex.specs.Tableaus.{Tableau}
use Rattle.tv_simplex.specs.Chains.{objective, column, IsChain, Solves, NoneNegative, Settles}
use Rattle.tv_simplex.specs.Answers.{values_of, barrier_of}

-- a number of an answer: below 2^62 in magnitude
abbrev pub IsShort : ℤ → Type 0
IsShort z = unsigned_abs z < 2 ^ 62

-- a number of a system or a tableau: below 2^40 in magnitude
abbrev pub IsNarrow : ℤ → Type 0
IsNarrow z = unsigned_abs z < 2 ^ 40

-- v / s is a fraction with a narrow numerator and a narrow denominator
pub record HasNarrow (v s : ℤ) : Type 0 where
  pub numerator : ℤ
  pub denominator : ℤ
  pub numerator_narrow : IsNarrow numerator
  pub denominator_narrow : IsNarrow denominator
  pub positive : pos 0 <ℤ denominator
  pub same : numerator *ℤ s ≡ v *ℤ denominator

-- ---- answers

-- numbers of at least 0 that meet the equations, times a scale above 0; all of them are short
pub record IsSolutionOf (s : Equations) (values : List ℤ) (scale : ℤ) : Type 0 where
  pub as_many : length values ≡ s.columns
  pub none_negative : (j : ℕ) → j < s.columns → pos 0 ≤ℤ get_or values j (pos 0)
  pub positive : pos 0 <ℤ scale
  pub met : (k : ℕ) → k < s.rows → total s.columns (λ j. entry_at s k j *ℤ get_or values j (pos 0)) ≡ scale *ℤ right_at s k
  pub short : (j : ℕ) → j < s.columns → IsShort (get_or values j (pos 0))
  pub scale_short : IsShort scale

-- a short multiplier of each row: no column of the sum of the rows is negative, and its right side is
pub record IsBarrierOf (s : Equations) (y : List ℤ) : Type 0 where
  pub as_many : length y ≡ s.rows
  pub not_under : (j : ℕ) → j < s.columns → pos 0 ≤ℤ total s.rows (λ k. get_or y k (pos 0) *ℤ entry_at s k j)
  pub below : total s.rows (λ k. get_or y k (pos 0) *ℤ right_at s k) <ℤ pos 0
  pub short : (k : ℕ) → k < s.rows → IsShort (get_or y k (pos 0))

-- ---- the chain of a system

abbrev pub TableauOf : Equations → List ℕ → Type 0
TableauOf s basis = Tableau (matrix s) s.rows s.columns (column basis)

-- a basis of the chain of the system, what came before it, and its tableau
pub record InChain (s : Equations) (basis : List ℕ) : Type 0 where
  pub earlier : List (List ℕ)
  pub chain : IsChain (matrix s) s.rows s.columns (basis ∷ earlier)
  pub table : TableauOf s basis

-- it settles the system, so it is the last of the chain
abbrev pub EndsInSolution : (s : Equations) (basis : List ℕ) → TableauOf s basis → Type 0
EndsInSolution s basis x = Solves (matrix s) s.rows s.columns (column basis) x

abbrev pub EndsInBarrier : (s : Equations) (basis : List ℕ) → TableauOf s basis → Type 0
EndsInBarrier s basis x = (EndsInSolution s basis x → ⊥) × NoneNegative (matrix s) s.rows s.columns (column basis) x

-- the number of the solution at a column, and of the barrier at a row, times the scale of the tableau
abbrev pub solution_number : (s : Equations) (basis : List ℕ) → TableauOf s basis → ℕ → ℤ
solution_number s basis x j = values_of (matrix s) s.rows s.columns (column basis) x j

abbrev pub barrier_number : (s : Equations) (basis : List ℕ) → TableauOf s basis → ℕ → ℤ
barrier_number s basis x k = sign s k *ℤ barrier_of (matrix s) s.rows s.columns (column basis) x k

-- a value for each column: over the scale they are the solution of the last basis of the chain
pub record GivesSolution (s : Equations) (values : List ℤ) (scale : ℤ) : Type 0 where
  pub as_many : length values ≡ s.columns
  pub positive : pos 0 <ℤ scale
  pub basis : List ℕ
  pub in_chain : InChain s basis
  pub ends : EndsInSolution s basis in_chain.table
  pub numbers : (j : ℕ) → j < s.columns →
      get_or values j (pos 0) *ℤ in_chain.table.scale ≡ scale *ℤ solution_number s basis in_chain.table j

-- a multiplier for each row: over some scale they are the barrier of the last basis of the chain
pub record GivesBarrier (s : Equations) (y : List ℤ) : Type 0 where
  pub as_many : length y ≡ s.rows
  pub basis : List ℕ
  pub in_chain : InChain s basis
  pub ends : EndsInBarrier s basis in_chain.table
  pub scale : ℤ
  pub positive : pos 0 <ℤ scale
  pub numbers : (k : ℕ) → k < s.rows →
      get_or y k (pos 0) *ℤ in_chain.table.scale ≡ scale *ℤ barrier_number s basis in_chain.table k

-- ---- refusals

-- the entry of a tableau in a row; the last row is the objective
abbrev pub full_entry : (s : Equations) (basis : List ℕ) → TableauOf s basis → ℕ → ℕ → ℤ
full_entry s basis x i j =
    cond (nat_lt i s.rows) (x.entry i j) (objective (matrix s) s.rows s.columns (column basis) x j)

-- the tableau of a basis of the chain has an entry at the place that is not narrow
pub record IsWide (s : Equations) (basis : List ℕ) (row column : ℕ) : Type 0 where
  pub in_chain : InChain s basis
  pub row_within : row ≤ s.rows
  pub column_within : column ≤ s.columns + s.rows
  pub wide : HasNarrow (full_entry s basis in_chain.table row column) in_chain.table.scale → ⊥

-- the system's own number at a place: the right side has the number of the last column of the tableau
abbrev pub given : Equations → ℕ → ℕ → ℤ
given s k j = cond (nat_lt j s.columns) (entry_at s k j) (right_at s k)

-- the columns that the system itself has
abbrev pub IsGivenColumn : Equations → ℕ → Type 0
IsGivenColumn s j = (j < s.columns) ⊎ (j ≡ s.columns + s.rows)

-- every number of the system is narrow
abbrev pub IsNarrowSystem : Equations → Type 0
IsNarrowSystem s = (k j : ℕ) → k < s.rows → IsGivenColumn s j → IsNarrow (given s k j)

-- the first place, row by row, with a number of the system that is not narrow
pub record IsFirstWide (s : Equations) (row column : ℕ) : Type 0 where
  pub row_within : row < s.rows
  pub column_given : IsGivenColumn s column
  pub wide : IsNarrow (given s row column) → ⊥
  pub before : (k j : ℕ) → k < s.rows → IsGivenColumn s j → (k < row) ⊎ ((k ≡ row) × (j < column)) → IsNarrow (given s k j)

-- `many` bases of the chain, and none of them settles the system
pub record AreUnsettled (s : Equations) (many : ℕ) : Type 0 where
  pub bases : List (List ℕ)
  pub as_many : length bases ≡ many
  pub first : (bases ≡ []) ⊎ IsChain (matrix s) s.rows s.columns bases
  pub unsettled : AllByRecursion (λ b. (x : TableauOf s b) → Settles (matrix s) s.rows s.columns (column b) x → ⊥) bases

-- an integer scale above 0 makes each of the first n numbers, over their denominator, an integer; the scale and
-- these integers are short
pub record HasScale (n : ℕ) (number : ℕ → ℤ) (denominator : ℤ) : Type 0 where
  pub scale : ℤ
  pub whole : ℕ → ℤ
  pub positive : pos 0 <ℤ scale
  pub short : IsShort scale
  pub same : (j : ℕ) → j < n → whole j *ℤ denominator ≡ scale *ℤ number j
  pub whole_short : (j : ℕ) → j < n → IsShort (whole j)

-- the basis is the last of the chain, and what it gives has no such scale
pub record HasNoScale (s : Equations) (basis : List ℕ) : Type 0 where
  pub in_chain : InChain s basis
  pub none :
      (EndsInSolution s basis in_chain.table × (HasScale s.columns (solution_number s basis in_chain.table) in_chain.table.scale → ⊥))
      ⊎ (EndsInBarrier s basis in_chain.table × (HasScale s.rows (barrier_number s basis in_chain.table) in_chain.table.scale → ⊥))

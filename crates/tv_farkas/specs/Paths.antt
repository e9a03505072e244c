use Rattle.std.specs.Prelude.{◌≡◌, ◌⊎◌, ℕ, ◌<◌, List, [], ◌∷◌, ◌++◌, length, All, get_or, ℤ, pos, neg_ℤ, ◌+ℤ◌, ◌*ℤ◌, ◌<ℤ◌, ◌≤ℤ◌, Option, None, Some, Vec}
use Rattle.std.specs.List.{Contains}
use Rattle.tv_linear.specs.Linear.{Linear, IsMet, IsScaledPoint}
use Rattle.tv_linear.specs.Arithmetic.{column_row, raised, denial}
use Rattle.tv_simplex.specs.Outcomes.{IsShort}
use Rattle.tv_farkas.specs.declared.branch.Branch.{Branch}
use Rattle.tv_farkas.specs.RefutationSystem.{IsPointOf}
use Rattle.tv_farkas.specs.Refuting.{AreShort}

-- the second list is the first with each row taken once, at its first place
pub data TakenOnce : List Linear → List Linear → Type 0 where
  none : TakenOnce [] []
  first : (rows kept : List Linear) (r : Linear) → TakenOnce rows kept → (Contains kept r → ⊥) → TakenOnce (rows ++ r ∷ []) (kept ++ r ∷ [])
  again : (rows kept : List Linear) (r : Linear) → TakenOnce rows kept → Contains kept r → TakenOnce (rows ++ r ∷ []) kept

-- the numbers over the scale are whole at the coordinate
abbrev pub IsWholeAt : List ℤ → ℤ → ℕ → Type 0
IsWholeAt values scale j = (q : ℤ) × (get_or values j (pos 0) ≡ q *ℤ scale)

-- column is the first of the n coordinates of the point that is not whole, and floor the integer just below it
pub record IsFirstFraction (n : ℕ) (values : List ℤ) (scale : ℤ) (column : ℕ) (floor : ℤ) : Type 0 where
  pub within : column < n
  pub before : (j : ℕ) → j < column → IsWholeAt values scale j
  pub fraction : IsWholeAt values scale column → ⊥
  pub below : (floor *ℤ scale) ≤ℤ get_or values column (pos 0)
  pub above : get_or values column (pos 0) <ℤ ((floor +ℤ pos 1) *ℤ scale)

-- the row `x - k` of a column over n columns, and the row `k + 1 - x`
abbrev pub at_most_row : ℕ → ℕ → ℤ → Linear
at_most_row n column k = raised (neg_ℤ k) (column_row n column)

abbrev pub at_least_row : ℕ → ℕ → ℤ → Linear
at_least_row n column k = denial (at_most_row n column k)

-- integers that meet the rows, over n columns
pub record IsWholePoint (n : ℕ) (rows : List Linear) (xs : List ℤ) : Type 0 where
  pub width : length xs ≡ n
  pub met : All (IsMet xs) rows

-- The row splits below or above the first coordinate that is not whole of the point of the rows above it, each
-- of them taken once; the numbers of the point are short. The lower side is settled first: where the row is that of
-- the upper side, each integer point of the lower side is settled.
pub record IsPointSplit (n : ℕ) (settled : List ℤ → Type 0) (above : List Linear) (row : Linear) (values : List ℤ) (scale : ℤ) : Type 0 where
  pub kept : List Linear
  pub taken : TakenOnce above kept
  pub point : IsPointOf n kept values scale
  pub met : IsScaledPoint above values scale
  pub short : AreShort values
  pub scale_short : IsShort scale
  pub column : ℕ
  pub floor : ℤ
  pub fraction : IsFirstFraction n values scale column floor
  pub side :
      (row ≡ at_most_row n column floor)
      ⊎ ((row ≡ at_least_row n column floor)
      × ((xs : List ℤ) → IsWholePoint n above xs → IsMet xs (at_most_row n column floor) → settled xs))

-- the row splits at the point that is kept beside it
abbrev pub SplitsAt : ℕ → (List ℤ → Type 0) → List Linear → Linear → {A : Type 0} → Option (Vec ℤ A × ℤ) → Type 0
SplitsAt n settled above row None = ⊥
SplitsAt n settled above row (Some (values, scale)) = IsPointSplit n settled above row values.items scale

abbrev pub IsCoordinateSplit : ℕ → (List ℤ → Type 0) → List Linear → Branch → Type 0
IsCoordinateSplit n settled above branch = SplitsAt n settled above branch.row branch.point

-- each split of the path keeps the rule, at the rows and the splits above it
abbrev pub IsPath : (List Linear → Branch → Type 0) → List Linear → List Branch → Type 0
IsPath rule above [] = Unit {0}
IsPath rule above (branch ∷ path) = rule above branch × IsPath rule (above ++ branch.row ∷ []) path

-- the rows at the end of a path
abbrev pub rows_after : List Linear → List Branch → List Linear
rows_after above [] = above
rows_after above (branch ∷ path) = rows_after (above ++ branch.row ∷ []) path

use Rattle.std.specs.Prelude.{◌≡◌, ◌⊎◌, ℕ, List, [], ◌∷◌, ◌++◌, All, ℤ, Option, None, Some, Vec}
use Rattle.std.specs.List.{Contains}
use Rattle.tv_linear.specs.Linear.{Linear, IsMet}
use Rattle.tv_linear.specs.Arithmetic.{denial}
use Rattle.tv_farkas.specs.declared.branch.Branch.{Branch}
use Rattle.tv_farkas.specs.Paths.{IsWholePoint, IsPointSplit, IsPath}
use Rattle.tv_cover.specs.Targets.{IsInTarget, HasPoint, IsTargetRow, IsNarrowRow}

-- the list has a row whose denial some scaled point of the rows above meets
abbrev pub IsLeftOpen : ℕ → List Linear → List Linear → Type 0
IsLeftOpen n above rows = (r : Linear) × Contains rows r × HasPoint n (above ++ denial r ∷ [])

-- the list has a row that no scaled point of the rows above meets
abbrev pub IsShut : ℕ → List Linear → List Linear → Type 0
IsShut n above rows = (r : Linear) × Contains rows r × (HasPoint n (above ++ r ∷ []) → ⊥)

-- The split is at a row of a target, which some scaled point of the rows above meets and some does not; its denial is
-- narrow. The side where the row is denied is settled first: where the row of the target is on the path, each integer
-- point of the rows above that meets the denial lies in a target.
pub record IsRowSplit (n : ℕ) (lists : List (List Linear)) (above : List Linear) (row : Linear) : Type 0 where
  pub at : Linear
  pub of_target : IsTargetRow lists at
  pub narrow : IsNarrowRow (denial at)
  pub met : HasPoint n (above ++ at ∷ [])
  pub denied : HasPoint n (above ++ denial at ∷ [])
  pub side :
      (row ≡ denial at)
      ⊎ ((row ≡ at)
      × ((xs : List ℤ) → IsWholePoint n above xs → IsMet xs (denial at) → IsInTarget lists xs))

-- The split is at a coordinate of the kept point, and each target has a row that no scaled point of the rows above meets.
pub record IsCoordinateSplit (n : ℕ) (lists : List (List Linear)) (above : List Linear) (row : Linear) (values : List ℤ) (scale : ℤ) : Type 0 where
  pub split : IsPointSplit n (IsInTarget lists) above row values scale
  pub shut : All (IsShut n above) lists

-- the split is at a coordinate where a point is kept beside it, and else at a row of a target
abbrev pub SplitsBy : ℕ → List (List Linear) → List Linear → Linear → {A : Type 0} → Option (Vec ℤ A × ℤ) → Type 0
SplitsBy n lists above row None = IsRowSplit n lists above row
SplitsBy n lists above row (Some (values, scale)) = IsCoordinateSplit n lists above row values.items scale

-- the rule of a split row: the rows above it have a scaled point, and no target is shown yet
pub record IsSplit (n : ℕ) (lists : List (List Linear)) (above : List Linear) (branch : Branch) : Type 0 where
  pub point : HasPoint n above
  pub left_open : All (IsLeftOpen n above) lists
  pub splits : SplitsBy n lists above branch.row branch.point

-- a path each of whose splits keeps the rule, at the rows and the splits above it
abbrev pub IsCoverPath : ℕ → List (List Linear) → List Linear → List Branch → Type 0
IsCoverPath n lists rows path = IsPath (IsSplit n lists) rows path

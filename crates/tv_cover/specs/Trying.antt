use Rattle.std.specs.Prelude.{◌≡◌, ℕ, ◌<◌, List, [], ◌∷◌, ◌++◌, take, All, slice_get, Some}
use Rattle.tv_linear.specs.Linear.{Linear, columns}
use Rattle.tv_linear.specs.Arithmetic.{denial}
use Rattle.tv_linear.specs.Fits.{IsNarrowAt, IsFirstWide}
use Rattle.tv_cover.specs.Targets.{HasPoint, IsNarrowRow}

-- The rows of the targets are tried in their order: target by target, each up to the first row that is not shown.

-- the row is shown: its denial is narrow, and no scaled point of the rows above meets it
abbrev pub IsShownRow : ℕ → List Linear → Linear → Type 0
IsShownRow n above row = IsNarrowRow (denial row) × (HasPoint n (above ++ denial row ∷ []) → ⊥)

-- the row at the place is the first of the list that is not shown, and some scaled point of the rows above meets its denial, which is narrow
pub record IsOpenAt (n : ℕ) (above target : List Linear) (place : ℕ) : Type 0 where
  pub row : Linear
  pub found : slice_get target place ≡ Some row
  pub shown : All (IsShownRow n above) (take place target)
  pub narrow : IsNarrowRow (denial row)
  pub point : HasPoint n (above ++ denial row ∷ [])

-- the target with the number is open at the place
pub record IsOpenTarget (n : ℕ) (lists : List (List Linear)) (above : List Linear) (number place : ℕ) : Type 0 where
  pub target : List Linear
  pub found : slice_get lists number ≡ Some target
  pub here : IsOpenAt n above target place

-- the denial of the row is 2^62 or more in magnitude at the column, the first such one
abbrev pub IsWideDenialAt : Linear → ℕ → Type 0
IsWideDenialAt row column = IsFirstWide (IsNarrowAt (denial row)) (columns (denial row)) column

-- so it is with a row of the list, and each row before it is shown
pub record IsWideIn (n : ℕ) (above target : List Linear) (column : ℕ) : Type 0 where
  pub place : ℕ
  pub row : Linear
  pub found : slice_get target place ≡ Some row
  pub shown : All (IsShownRow n above) (take place target)
  pub wide : IsWideDenialAt row column

-- the rows above have a scaled point, so it is with a row of a target, and each target before it is open
pub record IsWideAt (n : ℕ) (lists : List (List Linear)) (above : List Linear) (column : ℕ) : Type 0 where
  pub point : HasPoint n above
  pub number : ℕ
  pub target : List Linear
  pub found : slice_get lists number ≡ Some target
  pub earlier : (k : ℕ) → k < number → (place : ℕ) × IsOpenTarget n lists above k place
  pub here : IsWideIn n above target column

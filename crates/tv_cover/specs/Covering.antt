use Rattle.std.specs.Prelude.{◌≡◌, ◌⊎◌, ℕ, ◌<◌, ◌≤◌, List, [], ◌∷◌, ◌++◌, length, get_or, All, ℤ, pos, ◌*ℤ◌}
use Rattle.tv_linear.specs.Linear.{Linear, columns}
use Rattle.tv_linear.specs.Arithmetic.{denial}
use Rattle.tv_linear.specs.Known.{as_given}
use Rattle.tv_linear.specs.Covers.{IsMetCover}
use Rattle.tv_linear.specs.Depth.{splits}
use Rattle.tv_farkas.specs.declared.branch.Branch.{Branch}
use Rattle.tv_farkas.specs.declared.fault.CoverFault.{CoverFault}
use Rattle.tv_farkas.specs.declared.fault.CoverFault.TheVariants.{Splits, Solve, Wide, Memory}
use Rattle.tv_farkas.specs.RefutationSystem.{IsPointOf}
use Rattle.tv_farkas.specs.Refuting.{AreShort, IsSystemFault}
use Rattle.tv_farkas.specs.Trees.{TreeRows, TreeNumbers}
use Rattle.tv_farkas.specs.Paths.{TakenOnce, IsWholePoint, at_most_row, at_least_row, rows_after}
use Rattle.tv_cover.specs.declared.covered.Covered.{Covered}
use Rattle.tv_cover.specs.declared.covered.Covered.TheVariants.{Tree, Hole}
use Rattle.tv_cover.specs.Targets.{IsInTarget, IsOutside, IsTargetRow, IsNarrowRow, owed_lists}
use Rattle.tv_cover.specs.CoverPaths.{IsCoverPath}
use Rattle.tv_cover.specs.Trying.{IsWideAt}

-- ---- answers

-- an integer point of the rows outside every target
pub record IsHole (n : ℕ) (lists : List (List Linear)) (rows : List Linear) (xs : List ℤ) : Type 0 where
  pub point : IsWholePoint n rows xs
  pub outside : All (IsOutside xs) lists

-- a met cover of the rows into the targets, or a hole
abbrev pub IsCovered : ℕ → List (List Linear) → List Linear → Covered → Type 0
IsCovered n lists rows (Tree cover) = IsMetCover n (owed_lists lists) (as_given rows) cover
IsCovered n lists rows (Hole values) = IsHole n lists rows values.items

-- a tree is given only where each integer point of the rows lies in a target
abbrev pub HasNoHole : ℕ → List (List Linear) → List Linear → Covered → Type 0
HasNoHole n lists rows (Tree cover) = (xs : List ℤ) → IsWholePoint n rows xs → IsInTarget lists xs
HasNoHole n lists rows (Hole values) = Unit {0}

-- the n integers are the point of the rows at the end of a path, each taken once
pub record IsPointAfter (n : ℕ) (lists : List (List Linear)) (rows : List Linear) (xs : List ℤ) : Type 0 where
  pub as_many : length xs ≡ n
  pub path : List Branch
  pub is_path : IsCoverPath n lists rows path
  pub kept : List Linear
  pub taken : TakenOnce (rows_after rows path) kept
  pub values : List ℤ
  pub scale : ℤ
  pub point : IsPointOf n kept values scale
  pub whole : (j : ℕ) → j < n → get_or values j (pos 0) ≡ get_or xs j (pos 0) *ℤ scale

abbrev pub GivesHole : ℕ → List (List Linear) → List Linear → Covered → Type 0
GivesHole n lists rows (Tree cover) = Unit {0}
GivesHole n lists rows (Hole values) = IsPointAfter n lists rows values.items

-- at most `most` splits lie on a path of a tree
abbrev pub IsShallow : ℕ → Covered → Type 0
IsShallow most (Tree cover) = splits cover ≤ most
IsShallow most (Hole values) = Unit {0}

-- each multiplier of a tree, and each number of a hole, is below 2^62 in magnitude
abbrev pub IsShortCovered : Covered → Type 0
IsShortCovered (Tree cover) = TreeNumbers AreShort cover
IsShortCovered (Hole values) = AreShort values.items

-- a row of a target, or the denial of one, which is narrow
abbrev pub IsRowOrDenial : List (List Linear) → Linear → Type 0
IsRowOrDenial lists r = (q : Linear) × IsTargetRow lists q × ((r ≡ q) ⊎ ((r ≡ denial q) × IsNarrowRow (denial q)))

-- the row `x - k` or `k + 1 - x` of a column
abbrev pub IsCoordinateRow : ℕ → Linear → Type 0
IsCoordinateRow n r = (column : ℕ) × (floor : ℤ) × ((r ≡ at_most_row n column floor) ⊎ (r ≡ at_least_row n column floor))

-- a split row of a tree: it has n columns, and is one of a target or the denial of one, or splits a coordinate
pub record IsSplitRow (n : ℕ) (lists : List (List Linear)) (r : Linear) : Type 0 where
  pub even : columns r ≡ n
  pub origin : IsRowOrDenial lists r ⊎ IsCoordinateRow n r

abbrev pub HasSplitRows : ℕ → List (List Linear) → Covered → Type 0
HasSplitRows n lists (Tree cover) = TreeRows (IsSplitRow n lists) cover
HasSplitRows n lists (Hole values) = Unit {0}

-- ---- refusals

-- nothing, or a row of a target or the denial of one
abbrev pub IsOneMore : List (List Linear) → List Linear → Type 0
IsOneMore lists more = (more ≡ []) ⊎ ((r : Linear) × IsRowOrDenial lists r × (more ≡ r ∷ []))

-- the rows at the end of such a path, perhaps with a row of a target or the denial of one after them, each taken once;
-- their refutation system has the fault
pub record IsUnsolved (n : ℕ) (lists : List (List Linear)) (rows kept : List Linear) (holds : List Linear → Type 0) : Type 0 where
  pub path : List Branch
  pub is_path : IsCoverPath n lists rows path
  pub more : List Linear
  pub is_more : IsOneMore lists more
  pub taken : TakenOnce (rows_after rows path ++ more) kept
  pub fault : holds kept

-- at the end of such a path the denial of a row is 2^62 or more in magnitude at the column: the first row tried there with
-- such a denial, and its first such column
pub record IsWideDenial (n : ℕ) (lists : List (List Linear)) (rows : List Linear) (column : ℕ) : Type 0 where
  pub path : List Branch
  pub is_path : IsCoverPath n lists rows path
  pub wide : IsWideAt n lists (rows_after rows path) column

-- what a refusal shows, for a budget of `pivots` pivots and `most` splits
abbrev pub IsCoverFault : ℕ → List (List Linear) → List Linear → ℕ → ℕ → CoverFault → Type 0
IsCoverFault n lists rows pivots most (Splits path) = IsCoverPath n lists rows path.items × (length path.items ≡ most)
IsCoverFault n lists rows pivots most (Solve kept fault) = IsUnsolved n lists rows kept.items (λ k. IsSystemFault n k pivots fault)
IsCoverFault n lists rows pivots most (Wide column) = IsWideDenial n lists rows column
IsCoverFault n lists rows pivots most Memory = Unit {0}

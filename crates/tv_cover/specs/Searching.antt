use Rattle.std.specs.Prelude.{◌≡◌, ℕ, ◌≤◌, List, [], ◌∷◌, ◌++◌, Bool, ℤ}
use Rattle.std.specs.List.{Contains}
use Rattle.tv_linear.specs.Linear.{Linear, columns}
use Rattle.tv_linear.specs.Known.{Known, as_given}
use Rattle.tv_linear.specs.Covers.{IsMetCover}
use Rattle.tv_linear.specs.Depth.{splits}
use Rattle.tv_linear.specs.declared.cover.CoverTree.{CoverTree}
use Rattle.tv_farkas.specs.declared.branch.Branch.{Branch}
use Rattle.tv_farkas.specs.Refuting.{AreShort}
use Rattle.tv_farkas.specs.Trees.{TreeRows, TreeNumbers}
use Rattle.tv_farkas.specs.Paths.{TakenOnce, IsWholePoint, rows_after}
use Rattle.tv_farkas.specs.Stretching.{IsTakenBy, IsSide, AreSides, rows_of}
use Rattle.tv_cover.specs.declared.covering.Found.{Found}
use Rattle.tv_cover.specs.declared.covering.Found.TheVariants.{Tree, Hole}
use Rattle.tv_cover.specs.declared.covering.Place.{Place}
use Rattle.tv_cover.specs.Targets.{AreEven, IsInTarget, owed_lists}
use Rattle.tv_cover.specs.CoverPaths.{IsSplit, IsCoverPath}
use Rattle.tv_cover.specs.Covering.{IsHole, IsPointAfter, IsSplitRow}

-- the kept rows are the rows handed in, each taken once, and the splits of the path
pub record Searches (n : ℕ) (lists : List (List Linear)) (rows : List Linear) (marks : List Bool) (kept : List Linear) (path : List Branch) : Type 0 where
  pub even : AreEven n kept
  pub first : List Linear
  pub parts : kept ≡ first ++ rows_of path
  pub marked : IsTakenBy marks rows first
  pub taken : TakenOnce (rows_after rows path) kept
  pub is_path : IsCoverPath n lists rows path

abbrev pub SearchesAt : ℕ → List (List Linear) → List Linear → List Bool → Place → Type 0
SearchesAt n lists rows marks place = Searches n lists rows marks place.rows.items place.path.items

-- it is a place of a search of some rows
abbrev pub IsPlace : ℕ → List (List Linear) → List Bool → Place → Type 0
IsPlace n lists marks place = (rows : List Linear) × SearchesAt n lists rows marks place

-- the tree is a met cover of a place, which stands as before
pub record IsTreeOf (n : ℕ) (lists : List (List Linear)) (rows : List Linear) (left : ℕ) (old new : Place) (tree : CoverTree) : Type 0 where
  pub met : (sides : List Known) → AreSides n (rows_of old.path.items) sides → IsMetCover n (owed_lists lists) (as_given rows ++ sides) tree
  pub shallow : splits tree ≤ left
  pub short : TreeNumbers AreShort tree
  pub split_rows : TreeRows (IsSplitRow n lists) tree
  pub same_rows : new.rows.items ≡ old.rows.items
  pub same_path : new.path.items ≡ old.path.items

-- the same of the side of a split
pub record IsSideTree (n : ℕ) (lists : List (List Linear)) (rows : List Linear) (left : ℕ) (old new : Place) (row : Linear) (tree : CoverTree) : Type 0 where
  pub met : (sides : List Known) (side : Known) → AreSides n (rows_of old.path.items) sides → IsSide n row side →
      IsMetCover n (owed_lists lists) ((as_given rows ++ sides) ++ side ∷ []) tree
  pub shallow : splits tree ≤ left
  pub short : TreeNumbers AreShort tree
  pub split_rows : TreeRows (IsSplitRow n lists) tree
  pub same_rows : new.rows.items ≡ old.rows.items
  pub same_path : new.path.items ≡ old.path.items

-- a hole of the rows with short numbers, and where it comes from
pub record IsHoleFound (n : ℕ) (lists : List (List Linear)) (rows : List Linear) (xs : List ℤ) : Type 0 where
  pub hole : IsHole n lists rows xs
  pub short : AreShort xs
  pub origin : IsPointAfter n lists rows xs

abbrev pub IsFound : ℕ → List (List Linear) → List Linear → ℕ → Place → Place → Found → Type 0
IsFound n lists rows left old new (Tree tree) = IsTreeOf n lists rows left old new tree
IsFound n lists rows left old new (Hole values) = IsHoleFound n lists rows values.items

abbrev pub IsSideFound : ℕ → List (List Linear) → List Linear → ℕ → Place → Place → Linear → Found → Type 0
IsSideFound n lists rows left old new row (Tree tree) = IsSideTree n lists rows left old new row tree
IsSideFound n lists rows left old new row (Hole values) = IsHoleFound n lists rows values.items

-- a branch that may be put onto the path
pub record MaySplit (n : ℕ) (lists : List (List Linear)) (rows : List Linear) (place : Place) (branch : Branch) : Type 0 where
  pub even : columns branch.row ≡ n
  pub fresh : Contains place.rows.items branch.row → ⊥
  pub splits_by : IsSplit n lists (rows_after rows place.path.items) branch

-- the tree is a met cover of the rows, so that each of their integer points lies in a target
pub record IsCoverOf (n : ℕ) (lists : List (List Linear)) (rows : List Linear) (most : ℕ) (tree : CoverTree) : Type 0 where
  pub met : IsMetCover n (owed_lists lists) (as_given rows) tree
  pub none : (xs : List ℤ) → IsWholePoint n rows xs → IsInTarget lists xs
  pub shallow : splits tree ≤ most
  pub short : TreeNumbers AreShort tree
  pub split_rows : TreeRows (IsSplitRow n lists) tree

-- what the rows that are handed in have
abbrev pub IsSearched : ℕ → List (List Linear) → List Linear → ℕ → Found → Type 0
IsSearched n lists rows most (Tree tree) = IsCoverOf n lists rows most tree
IsSearched n lists rows most (Hole values) = IsHoleFound n lists rows values.items

-- it is a place of a search of some rows, and the branch may be put onto its path
abbrev pub IsPlaceWith : ℕ → List (List Linear) → List Bool → Place → Branch → Type 0
IsPlaceWith n lists marks place branch =
    (rows : List Linear) × SearchesAt n lists rows marks place × MaySplit n lists rows place branch

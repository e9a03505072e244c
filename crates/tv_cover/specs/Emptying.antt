-- Whether rows have an integer point: a cover without targets.
use Rattle.std.specs.Prelude.{◌≡◌, ℕ, ◌≤◌, List, ℤ}
use Rattle.tv_linear.specs.Linear.{Linear, columns}
use Rattle.tv_linear.specs.Known.{as_given}
use Rattle.tv_linear.specs.Covers.{no_target, IsMetCover}
use Rattle.tv_linear.specs.Depth.{splits as depth}
use Rattle.tv_farkas.specs.Refuting.{AreShort}
use Rattle.tv_farkas.specs.Trees.{TreeRows, TreeNumbers}
use Rattle.tv_farkas.specs.Paths.{IsWholePoint}
use Rattle.tv_farkas.specs.EmptyPaths.{IsWholePointOf}
use Rattle.tv_cover.specs.declared.emptied.Emptied.{Emptied}
use Rattle.tv_cover.specs.declared.emptied.Emptied.TheVariants.{Tree, Whole}

-- a met cover without targets, or an integer point
abbrev pub IsEmptied : ℕ → List Linear → Emptied → Type 0
IsEmptied n rows (Tree cover) = IsMetCover n no_target (as_given rows) cover
IsEmptied n rows (Whole values) = IsWholePoint n rows values.items

-- a tree is given only where no integer point meets the rows
abbrev pub HasNoWholePoint : ℕ → List Linear → Emptied → Type 0
HasNoWholePoint n rows (Tree cover) = (xs : List ℤ) → IsWholePoint n rows xs → ⊥
HasNoWholePoint n rows (Whole values) = Unit {0}

-- at most `most` splits lie on a path of a tree
abbrev pub IsShallow : ℕ → Emptied → Type 0
IsShallow most (Tree cover) = depth cover ≤ most
IsShallow most (Whole values) = Unit {0}

-- each split row of a tree has n columns
abbrev pub HasEvenSplits : ℕ → Emptied → Type 0
HasEvenSplits n (Tree cover) = TreeRows (λ r. columns r ≡ n) cover
HasEvenSplits n (Whole values) = Unit {0}

-- each multiplier of a tree, and each number of an integer point, is below 2^62 in magnitude
abbrev pub IsShortEmptied : Emptied → Type 0
IsShortEmptied (Tree cover) = TreeNumbers AreShort cover
IsShortEmptied (Whole values) = AreShort values.items

abbrev pub GivesWhole : ℕ → List Linear → Emptied → Type 0
GivesWhole n rows (Tree cover) = Unit {0}
GivesWhole n rows (Whole values) = IsWholePointOf n rows values.items

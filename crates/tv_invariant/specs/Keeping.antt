-- Rows that are kept once they are shown.
use Rattle.std.specs.Prelude.{◌≡◌, ℕ, List, [], ◌∷◌, ◌++◌, length, Bool}
use Rattle.tv_linear.specs.Linear.{Linear}
use Rattle.tv_linear.specs.declared.cover.CoverTree.{CoverTree}
use Rattle.tv_invariant.specs.declared.kept.Kept.{Kept}
use Rattle.tv_invariant.specs.Thinning.{AreMarks, IsThinned, Shows, picked}

-- after those that were kept before, the row is kept with these rows
pub record AddsKept (n : ℕ) (from : List Linear) (row : Linear) (before after : List Kept) : Type 0 where
  pub more : Kept
  pub added : after ≡ before ++ more ∷ []
  pub over : more.columns ≡ n
  pub same : more.row ≡ row
  pub by : more.from.items ≡ from

-- the row is kept with these rows if the tree shows it by them, and else nothing is
pub record KeepsShown (n : ℕ) (from : List Linear) (row : Linear) (tree : CoverTree) (before after : List Kept) : Type 0 where
  pub shown : Shows n from row tree → AddsKept n from row before after
  pub unshown : (Shows n from row tree → ⊥) → after ≡ before

-- so it is with those of the rows that the tree uses, and with the tree over them
pub record Keeps (n : ℕ) (rows : List Linear) (row : Linear) (tree : CoverTree) (before after : List Kept) : Type 0 where
  pub marks : List Bool
  pub thin : CoverTree
  pub used : AreMarks tree (length rows) marks
  pub thinned : IsThinned marks tree thin
  pub kept : KeepsShown n (picked marks rows) row thin before after

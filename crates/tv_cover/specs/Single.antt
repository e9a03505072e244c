-- Covers into one target.
use Rattle.std.specs.Prelude.{◌≡◌, ℕ, ◌≤◌, List, [], ◌∷◌}
use Rattle.tv_linear.specs.Linear.{Linear, columns}
use Rattle.tv_linear.specs.Known.{as_given}
use Rattle.tv_linear.specs.Covers.{IsMetCover}
use Rattle.tv_linear.specs.Depth.{splits}
use Rattle.tv_linear.specs.declared.cover.CoverTree.{CoverTree}
use Rattle.tv_farkas.specs.Refuting.{AreShort}
use Rattle.tv_farkas.specs.Trees.{TreeRows, TreeNumbers}
use Rattle.tv_cover.specs.Covering.{IsHole}
use Rattle.tv_cover.specs.Targets.{owed_lists}
use Rattle.tv_cover.specs.declared.covered.Covered.{Covered}
use Rattle.tv_cover.specs.declared.covered.Covered.TheVariants.{Tree, Hole}

-- a cover of the rows, over n columns, into one target
pub record IsCoverInto (n : ℕ) (rows target : List Linear) (tree : CoverTree) : Type 0 where
  pub met : IsMetCover n (owed_lists (target ∷ [])) (as_given rows) tree
  pub shallow : splits tree ≤ 128
  pub short : TreeNumbers AreShort tree
  pub even : TreeRows (λ r. columns r ≡ n) tree

-- such a cover, or a hole
abbrev pub IsCoveredByOne : ℕ → List Linear → List Linear → Covered → Type 0
IsCoveredByOne n rows target (Tree tree) = IsCoverInto n rows target tree
IsCoveredByOne n rows target (Hole values) = IsHole n (target ∷ []) rows values.items

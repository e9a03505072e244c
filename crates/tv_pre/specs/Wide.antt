-- Comparisons that have no rows.
use Rattle.std.specs.Prelude.{◌≡◌, ℕ, List, length, All, slice_get, Some, false, ◌&&◌, IsTrue}
use Rattle.tv_program.specs.declared.tree.Relation.{Relation}
use Rattle.tv_program.specs.Trees.{Expression}
use Rattle.tv_formula.specs.Properties.{Property, truth, compare, at, term, negated, all_of, some_of, next, fix, Properties, none, more}
use Rattle.tv_cases.specs.Comparisons.{has_rows}
use Rattle.tv_cases.specs.Linearity.{is_linear}
use Rattle.tv_pre.specs.declared.wide.Comparisons.{Comparisons}
use Rattle.tv_pre.specs.declared.wide.Comparisons.TheVariants.{HaveRows, Wide}

abbrev mutual
  -- both sides of each comparison of a normal property are linear
  pub IsLinear : Property → Type 0
  IsLinear (truth b) = Unit {0}
  IsLinear (compare r a b) = IsTrue (is_linear a && is_linear b)
  IsLinear (at l) = Unit {0}
  IsLinear term = Unit {0}
  IsLinear (negated f) = Unit {0}
  IsLinear (all_of fs) = AreLinear fs
  IsLinear (some_of fs) = AreLinear fs
  IsLinear (next path f) = IsLinear f
  IsLinear (fix path shape f g) = IsLinear f × IsLinear g

  pub AreLinear : Properties → Type 0
  AreLinear none = Unit {0}
  AreLinear (more f fs) = IsLinear f × AreLinear fs

-- the property has rows, if it is a comparison
abbrev pub HasOwnRows : ℕ → Property → Type 0
HasOwnRows n (compare r a b) = IsTrue (has_rows n r a b)
HasOwnRows n f = Unit {0}

-- the one with the number is a comparison that has no rows over n variables: a number of a part or of a row is too wide
pub record IsWideAt (n : ℕ) (fs : List Property) (place : ℕ) : Type 0 where
  pub relation : Relation
  pub left : Expression
  pub right : Expression
  pub there : slice_get fs place ≡ Some (compare relation left right)
  pub wide : has_rows n relation left right ≡ false

-- what is said of the comparisons among these properties
abbrev pub AreTold : ℕ → List Property → Comparisons → Type 0
AreTold n fs (HaveRows size) = All (HasOwnRows n) fs × (size ≡ length fs)
AreTold n fs (Wide place) = IsWideAt n fs place

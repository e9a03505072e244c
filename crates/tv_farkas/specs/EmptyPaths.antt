use Rattle.std.specs.Prelude.{◌≡◌, ℕ, ◌<◌, List, length, get_or, ℤ, pos, ◌*ℤ◌}
use Rattle.tv_linear.specs.Linear.{Linear}
use Rattle.tv_farkas.specs.declared.branch.Branch.{Branch}
use Rattle.tv_farkas.specs.declared.fault.CoverFault.{CoverFault}
use Rattle.tv_farkas.specs.declared.fault.CoverFault.TheVariants.{Splits, Solve, Wide, Memory}
use Rattle.tv_farkas.specs.RefutationSystem.{IsPointOf}
use Rattle.tv_farkas.specs.Refuting.{IsSystemFault}
use Rattle.tv_farkas.specs.Paths.{TakenOnce, IsCoordinateSplit, IsPath, rows_after}

-- a path without targets: the lower side of each split that is left has no integer point
abbrev pub IsEmptyPath : ℕ → List Linear → List Branch → Type 0
IsEmptyPath n rows path = IsPath (IsCoordinateSplit n (λ xs. ⊥)) rows path

-- the n integers are the point of the rows at the end of such a path, each taken once
pub record IsWholePointOf (n : ℕ) (rows : List Linear) (xs : List ℤ) : Type 0 where
  pub as_many : length xs ≡ n
  pub path : List Branch
  pub is_path : IsEmptyPath n rows path
  pub kept : List Linear
  pub taken : TakenOnce (rows_after rows path) kept
  pub values : List ℤ
  pub scale : ℤ
  pub point : IsPointOf n kept values scale
  pub whole : (j : ℕ) → j < n → get_or values j (pos 0) ≡ get_or xs j (pos 0) *ℤ scale

-- the rows at the end of such a path, each taken once, whose refutation system has the fault
pub record IsUnsolved (n : ℕ) (rows kept : List Linear) (holds : List Linear → Type 0) : Type 0 where
  pub path : List Branch
  pub is_path : IsEmptyPath n rows path
  pub taken : TakenOnce (rows_after rows path) kept
  pub fault : holds kept

-- what a refusal shows, for a budget of `pivots` pivots and `splits` splits; no row is denied or composed, so none is wide
abbrev pub IsEmptyFault : ℕ → List Linear → ℕ → ℕ → CoverFault → Type 0
IsEmptyFault n rows pivots splits (Splits path) = IsEmptyPath n rows path.items × (length path.items ≡ splits)
IsEmptyFault n rows pivots splits (Solve kept fault) = IsUnsolved n rows kept.items (λ k. IsSystemFault n k pivots fault)
IsEmptyFault n rows pivots splits (Wide column) = ⊥
IsEmptyFault n rows pivots splits Memory = Unit {0}

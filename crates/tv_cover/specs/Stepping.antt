use Rattle.std.specs.Prelude.{◌≡◌, ℕ, ◌<◌, List, length, get_or, map, All, Bool, ℤ, slice_get, Some}
use Rattle.std.specs.List.{Contains}
use Rattle.tv_linear.specs.Linear.{Linear, columns, IsMet, IsScaledPoint}
use Rattle.tv_linear.specs.Known.{given, denied, as_given}
use Rattle.tv_linear.specs.Refutation.{Refutes}
use Rattle.tv_linear.specs.declared.cover.CoverTree.{CoverTree, Split', Empty, Into}
use Rattle.tv_farkas.specs.RefutationSystem.{IsPointOf}
use Rattle.tv_farkas.specs.Refuting.{AreShort}
use Rattle.tv_simplex.specs.Outcomes.{IsShort}
use Rattle.tv_farkas.specs.Paths.{TakenOnce, IsWholePoint}
use Rattle.tv_farkas.specs.Stretching.{stretched, AreDivided, IsSide}
use Rattle.tv_cover.specs.declared.stepping.Look.{Look}
use Rattle.tv_cover.specs.declared.stepping.Look.TheVariants as look
use Rattle.tv_cover.specs.declared.stepping.Step.{Step}
use Rattle.tv_cover.specs.declared.stepping.Step.TheVariants as step
use Rattle.tv_farkas.specs.declared.splitting.Halves.{Halves}
use Rattle.tv_cover.specs.Targets.{IsInTarget}
use Rattle.tv_cover.specs.CoverPaths.{IsShut, IsSplit}
use Rattle.tv_cover.specs.Trying.{IsOpenTarget}
use Rattle.tv_cover.specs.Looking.{AreShowing, AreEntered}

-- for each of the targets a place of a row that is open
pub record AreOpenTargets (n : ℕ) (lists : List (List Linear)) (kept : List Linear) (places : List ℕ) : Type 0 where
  pub as_many : length places ≡ length lists
  pub each : (k : ℕ) → k < length lists → IsOpenTarget n lists kept k (get_or places k 0)

-- the tree is a leaf at a place: it refutes the rows by short multipliers, or shows each row of a target
pub record IsEmptyLeaf (n : ℕ) (marks : List Bool) (kept : List Linear) (numbers : List ℤ) : Type 0 where
  pub short : AreShort numbers
  pub multipliers : List ℤ
  pub refutes : Refutes n (as_given kept) multipliers
  pub stretch : numbers ≡ stretched marks multipliers

pub record IsIntoLeaf (n : ℕ) (lists : List (List Linear)) (marks : List Bool) (kept : List Linear) (number fall : ℕ) (numbers : List (List ℤ)) : Type 0 where
  pub no_fall : fall ≡ 0
  pub target : List Linear
  pub found : slice_get lists number ≡ Some target
  pub shown : AreShowing n marks kept target numbers

abbrev pub IsLeaf : ℕ → List (List Linear) → List Bool → List Linear → CoverTree → Type 0
IsLeaf n lists marks kept (Split' r p h q f) = ⊥
IsLeaf n lists marks kept (Empty ms) = IsEmptyLeaf n marks kept ms.items
IsLeaf n lists marks kept (Into number fall refutations) = IsIntoLeaf n lists marks kept number fall (map (λ l. l.items) refutations.items)

-- some target is shown, or none
abbrev pub IsLook : ℕ → List (List Linear) → List Bool → List Linear → Look → Type 0
IsLook n lists marks kept (look.Into tree) = IsLeaf n lists marks kept tree
IsLook n lists marks kept (look.Open places) = AreOpenTargets n lists kept places.items

-- the target at the number has no row that is met by no point
pub record IsEntered (n : ℕ) (lists : List (List Linear)) (kept : List Linear) (number : ℕ) : Type 0 where
  pub target : List Linear
  pub found : slice_get lists number ≡ Some target
  pub entered : AreEntered n kept target

-- no target is shown, and each row of the target at the number is met by a point
pub record MayEnter (n : ℕ) (lists : List (List Linear)) (kept : List Linear) (number : ℕ) (places : List ℕ) : Type 0 where
  pub left_open : AreOpenTargets n lists kept places
  pub entered : IsEntered n lists kept number

-- what the solver gives where it gives a point of the rows
pub record IsPointAt (n : ℕ) (kept : List Linear) (values : List ℤ) (scale : ℤ) : Type 0 where
  pub point : IsPointOf n kept values scale
  pub meets : IsScaledPoint kept values scale
  pub size : length values ≡ n
  pub short : AreShort values
  pub scale_short : IsShort scale

-- the point of the rows is whole, and each target has a row that no point of the rows meets
pub record IsHoleAt (n : ℕ) (lists : List (List Linear)) (kept : List Linear) (xs : List ℤ) : Type 0 where
  pub values : List ℤ
  pub scale : ℤ
  pub here : IsPointAt n kept values scale
  pub divided : AreDivided n values scale xs
  pub shut : All (IsShut n kept) lists

-- The two sides of a split that may stand on a path over the rows of a place: the second has the numbers of the first
-- one's denial, and may stand there once each integer point of the first is settled.
pub record AreHalves (n : ℕ) (lists : List (List Linear)) (kept : List Linear) (halves : Halves) : Type 0 where
  pub first_even : columns halves.first.row ≡ n
  pub second_even : columns halves.second.row ≡ n
  pub first_new : Contains kept halves.first.row → ⊥
  pub second_new : Contains kept halves.second.row → ⊥
  pub opposite : IsSide n halves.second.row (denied (given halves.first.row))
  pub first_splits : (above : List Linear) → TakenOnce above kept → IsSplit n lists above halves.first
  pub second_splits : (above : List Linear) → TakenOnce above kept →
      ((xs : List ℤ) → IsWholePoint n above xs → IsMet xs halves.first.row → IsInTarget lists xs) → IsSplit n lists above halves.second

-- what is done at a place
abbrev pub IsStep : ℕ → List (List Linear) → List Bool → List Linear → Step → Type 0
IsStep n lists marks kept (step.Leaf tree) = IsLeaf n lists marks kept tree
IsStep n lists marks kept (step.Hole values) = IsHoleAt n lists kept values.items
IsStep n lists marks kept (step.Split halves) = AreHalves n lists kept halves

use Rattle.std.specs.Prelude.{◌≡◌, ◌⊎◌, ℕ, ◌<◌, List, [], ◌∷◌, ◌++◌, length, get_or, map, All, Bool, ℤ}
use Rattle.std.specs.List.{Contains}
use Rattle.tv_linear.specs.Linear.{Linear, IsScaledPoint}
use Rattle.tv_linear.specs.Arithmetic.{denial}
use Rattle.tv_linear.specs.Known.{as_given}
use Rattle.tv_linear.specs.Refutation.{Refutes}
use Rattle.tv_farkas.specs.declared.refuted.Refuted.{Refuted}
use Rattle.tv_farkas.specs.declared.fault.CoverFault.{CoverFault}
use Rattle.tv_farkas.specs.declared.fault.CoverFault.TheVariants.{Splits, Solve, Wide, Memory}
use Rattle.tv_farkas.specs.Refuting.{AreShort, IsRefuted, IsShortRefuted, IsSystemFault}
use Rattle.tv_farkas.specs.Stretching.{stretched}
use Rattle.tv_cover.specs.declared.witness.Witness.{Witness}
use Rattle.tv_cover.specs.declared.looking.Shown.{Shown}
use Rattle.tv_cover.specs.declared.looking.Shown.TheVariants as shown
use Rattle.tv_cover.specs.Targets.{HasPoint, IsNarrowRow}
use Rattle.tv_cover.specs.Trying.{IsOpenAt}
use Rattle.tv_cover.specs.Covering.{IsRowOrDenial}

-- the row stands at the place of the list
abbrev pub StandsAt : List Linear → Linear → ℕ → Type 0
StandsAt rows row place = (place < length rows) × (get_or rows place row ≡ row)

-- the points have n coordinates and meet the rows
pub record IsWitness (n : ℕ) (kept : List Linear) (point : Witness) : Type 0 where
  pub size : length point.values.items ≡ n
  pub meets : IsScaledPoint kept point.values.items point.scale

abbrev pub AreWitnesses : ℕ → List Linear → List Witness → Type 0
AreWitnesses n kept points = All (IsWitness n kept) points

-- what the rows and one more are found to be
pub record IsRefutedWith (n : ℕ) (kept : List Linear) (row : Linear) (refuted : Refuted) : Type 0 where
  pub answers : IsRefuted n (kept ++ row ∷ []) refuted
  pub short : IsShortRefuted refuted

-- the refusal hands on these rows with the fault of their refutation system
abbrev pub IsRefusedAt : ℕ → List Linear → ℕ → CoverFault → Type 0
IsRefusedAt n kept pivots (Splits path) = ⊥
IsRefusedAt n kept pivots (Solve rows fault) = (rows.items ≡ kept) × IsSystemFault n kept pivots fault
IsRefusedAt n kept pivots (Wide column) = ⊥
IsRefusedAt n kept pivots Memory = Unit {0}

-- the rows of a place, perhaps with one more that is not among them
pub record IsOneMoreOf (lists : List (List Linear)) (kept rows : List Linear) : Type 0 where
  pub more : Linear
  pub row : IsRowOrDenial lists more
  pub new : Contains kept more → ⊥
  pub same : rows ≡ kept ++ more ∷ []

-- what a refusal shows at a place with these rows, and where a denial is too wide at a column
abbrev pub IsPlaceFault : (ℕ → Type 0) → ℕ → List (List Linear) → List Linear → ℕ → CoverFault → Type 0
IsPlaceFault wide n lists kept pivots (Splits path) = ⊥
IsPlaceFault wide n lists kept pivots (Solve rows fault) = ((rows.items ≡ kept) ⊎ IsOneMoreOf lists kept rows.items) × IsSystemFault n rows.items pivots fault
IsPlaceFault wide n lists kept pivots (Wide column) = wide column
IsPlaceFault wide n lists kept pivots Memory = Unit {0}

-- no column is
abbrev pub no_wide : ℕ → Type 0
no_wide column = ⊥

-- some point of the rows meets the denial of this row, which is narrow
abbrev pub IsOpenRow : ℕ → List Linear → Linear → Type 0
IsOpenRow n kept row = IsNarrowRow (denial row) × HasPoint n (kept ++ denial row ∷ [])

-- the rows stay, and the points still meet them
pub record IsLookedAt (n : ℕ) (old new : List Linear) (points : List Witness) : Type 0 where
  pub same : new ≡ old
  pub witnesses : AreWitnesses n old points

-- the numbers are short multipliers, with 0 at each repeated row, that refute the rows and the denial of the row, which is
-- narrow
pub record IsShowing (n : ℕ) (marks : List Bool) (kept : List Linear) (row : Linear) (numbers : List ℤ) : Type 0 where
  pub narrow : IsNarrowRow (denial row)
  pub short : AreShort numbers
  pub multipliers : List ℤ
  pub refutes : Refutes n (as_given (kept ++ denial row ∷ [])) multipliers
  pub stretch : numbers ≡ stretched marks multipliers

-- for each row of the target multipliers that refute the rows and its denial
abbrev pub AreShowing : ℕ → List Bool → List Linear → List Linear → List (List ℤ) → Type 0
AreShowing n marks kept [] [] = Unit {0}
AreShowing n marks kept [] (ms ∷ lists) = ⊥
AreShowing n marks kept (r ∷ target) [] = ⊥
AreShowing n marks kept (r ∷ target) (ms ∷ lists) = IsShowing n marks kept r ms × AreShowing n marks kept target lists

-- all rows of the target are shown, or one is not
abbrev pub IsShown : ℕ → List Bool → List Linear → List Linear → Shown → Type 0
IsShown n marks kept target (shown.All lists) = AreShowing n marks kept target (map (λ l. l.items) lists.items)
IsShown n marks kept target (shown.Open place) = IsOpenAt n kept target place

-- each row of the target has a point
abbrev pub AreEntered : ℕ → List Linear → List Linear → Type 0
AreEntered n kept target = All (λ r. HasPoint n (kept ++ r ∷ [])) target

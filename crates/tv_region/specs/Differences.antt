-- Rows, cases and regions of differences.
use Rattle.std.specs.Prelude.{◌≡◌, ◌⊎◌, ℕ, All, ℤ, pos, negsuc}
use Rattle.tv_linear.specs.Linear.{Linear}
use Rattle.tv_linear.specs.declared.region.Region.{Region}
use Rattle.tv_cases.specs.LinearCases.{LinearCase, CaseSystem}
use Rattle.tv_region.specs.Met.{Has}
use Rattle.tv_region.specs.Made.{last_of}
use Rattle.tv_region.specs.Regions.{HasRow}

-- the number of a row in a column
abbrev pub coefficient : Linear → ℕ → ℤ
coefficient r j = last_of j r

-- each coefficient is 0, 1 or -1, at most one is 1 and at most one is -1
pub record IsDifference (r : Linear) : Type 0 where
  pub each : (j : ℕ) → (coefficient r j ≡ pos 0) ⊎ ((coefficient r j ≡ pos 1) ⊎ (coefficient r j ≡ negsuc 0))
  pub one_added : (i j : ℕ) → coefficient r i ≡ pos 1 → coefficient r j ≡ pos 1 → i ≡ j
  pub one_taken_off : (i j : ℕ) → coefficient r i ≡ negsuc 0 → coefficient r j ≡ negsuc 0 → i ≡ j

-- a number, or one column plus a number
pub record IsShift (r : Linear) : Type 0 where
  pub each : (j : ℕ) → (coefficient r j ≡ pos 0) ⊎ (coefficient r j ≡ pos 1)
  pub one : (i j : ℕ) → coefficient r i ≡ pos 1 → coefficient r j ≡ pos 1 → i ≡ j

pub record IsCaseOfDifferences (c : LinearCase) : Type 0 where
  pub guards : (r : Linear) → Has c.guards r → IsDifference r
  pub updates : All (λ u. IsShift u.term) c.updates

-- each case is of differences
abbrev pub AreOfDifferences : CaseSystem → Type 0
AreOfDifferences about = (c : LinearCase) → Has about.cases c → IsCaseOfDifferences c

-- each row of the region is a difference
abbrev pub IsOfDifferences : Region → Type 0
IsOfDifferences region = (r : Linear) → HasRow region r → IsDifference r

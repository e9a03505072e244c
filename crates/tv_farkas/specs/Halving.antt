use Rattle.std.specs.Prelude.{◌≡◌, ℕ, ◌<◌, List, length, get_or, ℤ, pos, Option, None, Some, Vec}
use Rattle.tv_linear.specs.Linear.{Linear, IsScaledPoint}
use Rattle.tv_simplex.specs.Outcomes.{IsShort}
use Rattle.tv_farkas.specs.RefutationSystem.{IsPointOf}
use Rattle.tv_farkas.specs.Paths.{IsWholeAt, at_most_row, at_least_row}
use Rattle.tv_farkas.specs.Stretching.{IsFloor}
use Rattle.tv_farkas.specs.declared.splitting.Halves.{Halves}

-- a point of the kept rows with a first coordinate that is not whole
pub record IsFractionAt (n : ℕ) (kept : List Linear) (column : ℕ) (values : List ℤ) (scale : ℤ) : Type 0 where
  pub point : IsPointOf n kept values scale
  pub met : IsScaledPoint kept values scale
  pub size : length values ≡ n
  pub short : (j : ℕ) → j < length values → IsShort (get_or values j (pos 0))
  pub scale_short : IsShort scale
  pub within : column < n
  pub before : (j : ℕ) → j < column → IsWholeAt values scale j
  pub fraction : IsWholeAt values scale column → ⊥

-- the point is kept
abbrev pub Keeps : List ℤ → ℤ → {A : Type 0} → Option (Vec ℤ A × ℤ) → Type 0
Keeps values scale None = ⊥
Keeps values scale (Some (v, z)) = (v.items ≡ values) × (z ≡ scale)

-- first the side below the coordinate of the point, then the one above it; each keeps the point
pub record ArePointSides (n column : ℕ) (values : List ℤ) (scale : ℤ) (halves : Halves) : Type 0 where
  pub floor : ℤ
  pub is_floor : IsFloor (get_or values column (pos 0)) scale floor
  pub short : IsShort floor
  pub first_row : halves.first.row ≡ at_most_row n column floor
  pub second_row : halves.second.row ≡ at_least_row n column floor
  pub first_keeps : Keeps values scale halves.first.point
  pub second_keeps : Keeps values scale halves.second.point

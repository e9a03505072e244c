use Rattle.std.specs.Prelude.{◌≡◌, ℤ, Option, None, Some, Vec}
use Rattle.tv_linear.specs.Linear.{Linear}
use Rattle.tv_linear.specs.Arithmetic.{denial}
use Rattle.tv_farkas.specs.declared.splitting.Halves.{Halves}
use Rattle.tv_cover.specs.Targets.{IsNarrowRow}

-- no point is kept
abbrev pub IsBare : {A : Type 0} → Option (Vec ℤ A × ℤ) → Type 0
IsBare None = Unit {0}
IsBare (Some (values, scale)) = ⊥

-- first the row is denied, then it is met
pub record AreRowSides (row : Linear) (halves : Halves) : Type 0 where
  pub first_row : halves.first.row ≡ denial row
  pub second_row : halves.second.row ≡ row
  pub first_bare : IsBare halves.first.point
  pub second_bare : IsBare halves.second.point
  pub narrow : IsNarrowRow (denial row)

use Rattle.std.specs.Prelude.{◌≡◌, ℕ, ◌<◌, List, length, Vec}
use Rattle.tv_fraction.specs.declared.Fraction.{Fraction}
use Rattle.tv_simplex.specs.Ratios.{IsExchanged}
use Rattle.tv_simplex.specs.declared.rows.Entry.{Entry}
use Rattle.tv_simplex.specs.Rows.{ratio, read, IsNarrowRatio, IsGrid}

-- column c entered in row r
pub record IsNext {A : Type 0} (width r c : ℕ) (old new : List (Vec Entry A)) : Type 0 where
  pub size : length new ≡ length old
  pub grid : IsGrid width new
  pub exchanged : (i j : ℕ) → i < length old → j < width → IsExchanged r c (read old) i j (read new i j)

-- at the place stands a fraction that is not narrow, where column c enters in row r
pub record IsWideNext {A : Type 0} (width r c : ℕ) (old : List (Vec Entry A)) (i j : ℕ) : Type 0 where
  pub row_within : i < length old
  pub column_within : j < width
  pub fraction : Fraction
  pub is : IsExchanged r c (read old) i j (ratio fraction)
  pub wide : IsNarrowRatio (ratio fraction) → ⊥

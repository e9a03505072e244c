use Rattle.std.specs.Prelude.{◌≡◌, ℕ, ◌<◌, List, [], ◌∷◌, length, map, All, ℤ, pos, ◌+ℤ◌, ◌*ℤ◌, ◌≤ℤ◌, ◌<ℤ◌, Option, None, Some}
use Rattle.tv_linear.specs.Linear.{dot}
use Rattle.tv_linear.specs.Fits.{IsHeld}
use Rattle.tv_linear.specs.Known.{Known, KnownHeld, known_number}

-- from a sum on, in the order of the lists: each row's number is held, and each product and each sum is
-- below 2^127 in magnitude
abbrev pub RowsHeld : {A : Type 0} → (A → Type 0) → ℤ → (A → ℤ) → List ℤ → List A → Type 0
RowsHeld held sum p [] rows = Unit {0}
RowsHeld held sum p (m ∷ ms) [] = Unit {0}
RowsHeld held sum p (m ∷ ms) (r ∷ rows) =
    held r × IsHeld (m *ℤ p r) × IsHeld (sum +ℤ m *ℤ p r) × RowsHeld held (sum +ℤ m *ℤ p r) p ms rows

-- the sum of the products of the multipliers and the rows' numbers in a column
abbrev pub column_sum : List ℤ → List Known → Option ℕ → ℤ
column_sum ms rows column = dot ms (map (λ k. known_number k column) rows)

-- each number, each product and each sum on the way to it is below 2^127 in magnitude
abbrev pub ColumnHeld : List ℤ → List Known → Option ℕ → Type 0
ColumnHeld ms rows column = RowsHeld (λ k. KnownHeld k column) (pos 0) (λ k. known_number k column) ms rows

-- the multipliers refute the rows, which have n columns: no multiplier is negative, and the rows, each
-- times its own, add up to a positive constant alone, with no number on the way of 2^127 or more in
-- magnitude
pub record Refutes (n : ℕ) (rows : List Known) (ms : List ℤ) : Type 0 where
  pub as_many : length ms ≡ length rows
  pub none_negative : All (λ m. pos 0 ≤ℤ m) ms
  pub columns : (j : ℕ) → j < n → column_sum ms rows (Some j) ≡ pos 0
  pub constant : pos 0 <ℤ column_sum ms rows None
  pub columns_held : (j : ℕ) → j < n → ColumnHeld ms rows (Some j)
  pub constant_held : ColumnHeld ms rows None

-- The rows that are known at locations, and those that are met where a case is taken.
use Rattle.std.specs.Prelude.{◌≡◌, ℕ, ◌<◌, List, [], ◌++◌, length, map, All}
use Rattle.tv_linear.specs.Linear.{Linear, columns}
use Rattle.tv_linear.specs.Arithmetic.{padded_row}
use Rattle.tv_linear.specs.Known.{Known, as_given}
use Rattle.tv_linear.specs.declared.region.Piece.{Piece}
use Rattle.tv_cases.specs.LinearCases.{CaseSystem}
use Rattle.tv_rank.specs.Ways.{Way, rows_at}

-- the rows of a piece
abbrev pub piece_rows : Piece → List Linear
piece_rows p = p.poly.rows.items

-- A piece for each location, in their order, with rows over the variables.
pub record AreKnown (about : CaseSystem) (known : List Piece) : Type 0 where
  pub one_each : length known ≡ about.locations
  pub over : All (λ p. All (λ r. columns r ≡ about.variables) (piece_rows p)) known

-- no rows are known
abbrev pub AreBare : List Piece → Type 0
AreBare known = (l : ℕ) → rows_at known l ≡ []

-- at some location a row is known
abbrev pub HaveRows : List Piece → Type 0
HaveRows known = (l : ℕ) × (0 < length (rows_at known l))

-- the rows that are met where a way is taken: those that are known where it starts, and then the guards
abbrev pub way_rows : Way → List Known
way_rows w = as_given w.known ++ as_given w.taken.guards

-- the same rows, each over the variables and the draws
abbrev pub padded_rows : Way → List Linear
padded_rows w = map (padded_row w.taken.draws) w.known ++ w.taken.guards

use Rattle.std.specs.Prelude.{ℕ, zero, suc, List, [], ◌++◌, map, get_or, Bool, false, ◌||◌, ◌==◌}
use Rattle.tv_linear.specs.Linear.{Linear}
use Rattle.tv_linear.specs.declared.region.Piece.{Piece}
use Rattle.tv_cases.specs.LinearCases.{LinearCase}

-- a case that is taken, and the rows that are known where it starts
pub record Way : Type 0 where
  pub taken : LinearCase
  pub known : List Linear

-- the rows that are met where it is taken: those that are known, and then the guards
abbrev pub met_rows : Way → List Linear
met_rows w = w.known ++ w.taken.guards

abbrev pub no_case : LinearCase
no_case = record { from = 0; to = 0; draws = 0; guards = []; updates = [] }

abbrev pub case_at : List LinearCase → ℕ → LinearCase
case_at cases k = get_or cases k no_case

-- The rows that are known at a location. Each location has one piece.
abbrev pub rows_at : List Piece → ℕ → List Linear
rows_at known l = get_or (map (λ p. p.poly.rows.items) known) l []

abbrev pub way_of : List LinearCase → List Piece → ℕ → Way
way_of cases known k = record { taken = case_at cases k; known = rows_at known (case_at cases k).from }

-- the way of the case at a place of a set
abbrev pub way_at : List LinearCase → List Piece → List ℕ → ℕ → Way
way_at cases known set k = way_of cases known (get_or set k 0)

-- whether one of the first ways starts or ends at the location
abbrev pub touches : (ℕ → Way) → ℕ → ℕ → Bool
touches ways zero l = false
touches ways (suc k) l = touches ways k l || ((ways k).taken.from == l || (ways k).taken.to == l)

-- Rows at locations, and over the columns of a case.
use Rattle.std.specs.Prelude.{ℕ, List, ◌++◌, map, ◌==◌}
use Rattle.std.specs.List.{filter}
use Rattle.tv_linear.specs.Linear.{Linear}
use Rattle.tv_linear.specs.Arithmetic.{padded_row}
use Rattle.tv_cases.specs.LinearCases.{LinearCase}
use Rattle.tv_candidates.specs.declared.candidate.Candidate.{Candidate}

abbrev pub row_of : Candidate → Linear
row_of c = c.row

abbrev pub place_of : Candidate → ℕ
place_of c = c.location

-- the rows of the candidates at a location, in order
abbrev pub rows_at : ℕ → List Candidate → List Linear
rows_at l candidates = map row_of (filter (λ c. place_of c == l) candidates)

-- what holds over a case: the rows where it leaves, and its guards
abbrev pub step_rows : LinearCase → List Candidate → List Linear
step_rows c candidates = map (padded_row c.draws) (rows_at c.from candidates) ++ c.guards

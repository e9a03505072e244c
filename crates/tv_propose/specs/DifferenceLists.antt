-- Differences of two variables as candidates.
use Rattle.std.specs.Prelude.{ℕ, List, [], ◌∷◌, map, ℤ, pos, negsuc, ◌==◌, if◌then◌else◌}
use Rattle.tv_linear.specs.Linear.{Linear, linear}
use Rattle.tv_linear.specs.Arithmetic.{opposite, plus, column_row}
use Rattle.tv_linear.specs.Terms.{table}
use Rattle.tv_cases.specs.LinearCases.{CaseSystem}
use Rattle.tv_candidates.specs.declared.candidate.Candidate.{Candidate}
use Rattle.tv_propose.specs.Everywhere.{everywhere}
use Rattle.tv_propose.specs.Walks.{rows_of}

-- the row `x - y + more` over n columns
abbrev pub difference : ℕ → ℕ → ℕ → ℤ → Linear
difference n x y more = linear (plus (column_row n x) (opposite (column_row n y))).coefficients more

-- `x - y + c` for c = -1, 0 and 1, where the variables are different
abbrev pub difference_rows : ℕ → ℕ → ℕ → List Linear
difference_rows n x y = (if x == y then [] else map (difference n x y) (negsuc 0 ∷ pos 0 ∷ pos 1 ∷ []))

-- those of each ordered pair of variables
abbrev pub difference_table : CaseSystem → List (List (List Linear))
difference_table about = table about.variables (λ x. table about.variables (λ y. difference_rows about.variables x y))

-- for each ordered pair of different variables `x - y + c` for c = -1, 0 and 1, at each location
abbrev pub difference_candidates : CaseSystem → List Candidate
difference_candidates about = everywhere about (rows_of (difference_table about))

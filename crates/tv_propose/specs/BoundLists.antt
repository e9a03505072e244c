-- Bounds of the variables as candidates.
use Rattle.std.specs.Prelude.{ℕ, List, [], ◌∷◌, map, ℤ, neg_ℤ}
use Rattle.tv_linear.specs.Linear.{Linear, linear}
use Rattle.tv_linear.specs.Arithmetic.{unit}
use Rattle.tv_linear.specs.Terms.{table}
use Rattle.tv_cases.specs.LinearCases.{CaseSystem}
use Rattle.tv_candidates.specs.declared.candidate.Candidate.{Candidate}
use Rattle.tv_propose.specs.Everywhere.{everywhere}
use Rattle.tv_propose.specs.Walks.{rows_of}
use Rattle.tv_propose.specs.Constants.{constants}

-- the row `x - bound` over n columns
abbrev pub upper_bound : ℕ → ℕ → ℤ → Linear
upper_bound n x bound = linear (unit n x) (neg_ℤ bound)

-- the row `-x + bound`
abbrev pub lower_bound : ℕ → ℕ → ℤ → Linear
lower_bound n x bound = linear (map neg_ℤ (unit n x)) bound

-- both of each variable and each of these numbers
abbrev pub bound_table : CaseSystem → List ℤ → List (List (List Linear))
bound_table about numbers = table about.variables (λ x. map (λ c. upper_bound about.variables x c ∷ lower_bound about.variables x c ∷ []) numbers)

-- for each variable `x - c` and `-x + c` for each c of the ordered set of 0 and of the constants of guards and updates with their
-- negatives, at each location
abbrev pub bound_candidates : CaseSystem → List Candidate
bound_candidates about = everywhere about (rows_of (bound_table about (constants about)))

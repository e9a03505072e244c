use Rattle.std.specs.Prelude.{ℕ, suc, List, [], ◌∷◌, ◌++◌, length, map, sum, Bool, ◌&&◌, nat_le, cond, Result, Ok, Err}
use Rattle.tv_program.specs.Trees.{Transition}
use Rattle.tv_program.specs.Systems.{System}
use Rattle.tv_cases.specs.LinearCases.{LinearCase, coefficients}
use Rattle.tv_cases.specs.EdgeCases.{edge_cases, edge_is_narrow}

-- why a program has no cases, with the edge's number
pub data LinearFault : Type 0 where
  wide : ℕ → LinearFault
  too_many : ℕ → LinearFault

-- at most 8,192 cases, with at most 8,000,000 coefficients of guards and updates
abbrev pub are_few : List LinearCase → Bool
are_few cs = nat_le (length cs) 8192 && nat_le (sum (map coefficients cs)) 8000000

-- the cases before, and those of the edges from number k on, or the first fault
abbrev pub cases_from : ℕ → ℕ → List LinearCase → List Transition → Result (List LinearCase) LinearFault
cases_from n k before [] = Ok before
cases_from n k before (e ∷ es) =
    cond (edge_is_narrow n e)
    (cond (are_few (before ++ edge_cases n e)) (cases_from n (suc k) (before ++ edge_cases n e) es) (Err (too_many k)))
    (Err (wide k))

-- the linear cases of a program, edge by edge, or the fault of its first edge that has one
abbrev pub linear_cases : System → Result (List LinearCase) LinearFault
linear_cases p = cases_from (length p.variables) 0 [] p.edges

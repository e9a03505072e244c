-- The guards of the cases as candidates.
use Rattle.std.specs.Prelude.{ℕ, ◌^◌, List, [], ◌∷◌, map, take, drop, pos, ◌-ℤ◌, unsigned_abs, nat_lt, Bool, ◌&&◌, if◌then◌else◌, Option, None, Some}
use Rattle.std.specs.List.{list_all}
use Rattle.tv_linear.specs.Linear.{Linear, linear}
use Rattle.tv_linear.specs.Arithmetic.{denial}
use Rattle.tv_cases.specs.Forms.{is_zero}
use Rattle.tv_cases.specs.LinearCases.{CaseSystem}
use Rattle.tv_candidates.specs.declared.candidate.Candidate.{Candidate}
use Rattle.tv_propose.specs.Everywhere.{everywhere}
use Rattle.tv_propose.specs.Walks.{rows_of}

-- each coefficient after the first n is 0
abbrev pub has_no_draw : ℕ → Linear → Bool
has_no_draw n r = list_all is_zero (drop n r.coefficients)

-- the row without the coefficients after the first n
abbrev pub over_variables : ℕ → Linear → Linear
over_variables n r = linear (take n r.coefficients) r.constant

-- the constant of the denial is below 2^62 in magnitude; its coefficients are those of the row with their signs turned
abbrev pub has_narrow_denial : Linear → Bool
has_narrow_denial r = nat_lt (unsigned_abs (pos 1 -ℤ r.constant)) (2 ^ 62)

-- the guard, where it has no draw
abbrev pub guard_at : ℕ → Linear → Option Linear
guard_at n r = (if has_no_draw n r then Some (over_variables n r) else None)

-- its denial, where that is narrow
abbrev pub denial_at : ℕ → Linear → Option Linear
denial_at n r = (if has_no_draw n r && has_narrow_denial r then Some (denial (over_variables n r)) else None)

-- a guard without a draw, and then its denial where that is narrow
abbrev pub guard_rows : ℕ → Linear → List Linear
guard_rows n r = (if has_no_draw n r then over_variables n r ∷ (if has_narrow_denial r then denial (over_variables n r) ∷ [] else []) else [])

-- those of each guard of each case
abbrev pub guard_table : CaseSystem → List (List (List Linear))
guard_table about = map (λ c. map (guard_rows about.variables) c.guards) about.cases

-- of each case in order each guard without a draw, and then its denial where that is narrow, at each location
abbrev pub guard_candidates : CaseSystem → List Candidate
guard_candidates about = everywhere about (rows_of (guard_table about))

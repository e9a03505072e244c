use Rattle.tv_simplex.specs.Outcomes.{IsShort}
use Rattle.std.specs.Prelude.{Vec, ℤ, pos, ◌≤ℤ◌, ℕ, ◌<◌, List, length, map, get_or, All}
use Rattle.tv_linear.specs.declared.region.Piece.{Piece}
use Rattle.tv_rank.specs.declared.unknown.Identity.{Identity}
use Rattle.tv_rank.specs.declared.unknown.Identity.TheVariants.{Step, Bound}
use Rattle.tv_cases.specs.LinearCases.{LinearCase}

-- each number is that of one of `many` cases
abbrev pub AreNumbered : ℕ → List ℕ → Type 0
AreNumbered many set = (k : ℕ) → k < length set → get_or set k 0 < many

-- the rows that are known stand for each location
abbrev pub AreStarted : List LinearCase → List Piece → Type 0
AreStarted cases known = All (λ c. c.from < length known) cases

-- the identity speaks of one of `many` places
abbrev pub IsPlaced : ℕ → Identity → Type 0
IsPlaced many (Step k) = k < many
IsPlaced many Bound = Unit {0}

-- numbers of a solution: short, and at least 0
abbrev pub AreParts : List ℤ → Type 0
AreParts xs = (j : ℕ) → j < length xs → IsShort (get_or xs j (pos 0)) × (pos 0 ≤ℤ get_or xs j (pos 0))

-- the lists in a list of vectors
abbrev pub lists : {A : Type 0} → List (Vec ℤ A) → List (List ℤ)
lists vs = map (λ v. v.items) vs

-- the case leads from one of `locations` locations to one of them
pub record IsBetween (locations : ℕ) (c : LinearCase) : Type 0 where
  pub leaves : c.from < locations
  pub enters : c.to < locations

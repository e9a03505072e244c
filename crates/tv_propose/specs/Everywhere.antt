-- Rows that are offered at each location.
use Rattle.std.specs.Prelude.{ℕ, zero, suc, List, [], ◌++◌, map}
use Rattle.tv_linear.specs.Linear.{Linear}
use Rattle.tv_cases.specs.LinearCases.{CaseSystem}
use Rattle.tv_candidates.specs.declared.candidate.Candidate.{Candidate}
use Rattle.tv_candidates.specs.Offered.{candidate}

-- each row at each of m locations, the first of them l
abbrev pub from_location : ℕ → ℕ → List Linear → List Candidate
from_location zero l rows = []
from_location (suc m) l rows = map (candidate l) rows ++ from_location m (suc l) rows

-- each row at each location of the cases, by location in number order
abbrev pub everywhere : CaseSystem → List Linear → List Candidate
everywhere about rows = from_location about.locations 0 rows

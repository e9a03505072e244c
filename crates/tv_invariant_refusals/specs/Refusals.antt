-- What a refusal of the greatest inductive part shows.
use Rattle.std.specs.Prelude.{ℕ, List, map}
use Rattle.tv_cases.specs.LinearCases.{CaseSystem}
use Rattle.tv_candidates.specs.declared.candidate.Candidate.{Candidate}
use Rattle.tv_farkas.specs.declared.fault.CoverFault.{CoverFault}
use Rattle.tv_derived.specs.Scopes.{Placed, placed}
use Rattle.tv_derived.specs.Faults.{IsRefusalOf}
use Rattle.tv_cover_refusals.specs.Covers.{IsSpentOnTargets}
use Rattle.tv_invariant.specs.Falling.{IsRefusal}
use Rattle.tv_invariant.specs.Passes.{AreOver}

abbrev pub placed_row : Candidate → Placed
placed_row c = placed c.location c.row

-- the rows of candidates, as rows handed in
abbrev pub handed_candidates : List Candidate → List Placed
handed_candidates list = map placed_row list

-- a refusal over a list of candidates shows a path that has spent the splits, a list that was not solved or a row that is too wide, each over
-- rows derived from the candidates
abbrev pub InductiveRefuses : CaseSystem → Type 0
InductiveRefuses about =
    (list : List Candidate) (pivots splits : ℕ) (fault : CoverFault) → AreOver about.variables list → IsRefusal about list pivots splits fault
    → IsRefusalOf about (handed_candidates list) 1 pivots (IsSpentOnTargets about (handed_candidates list) 1 1 splits) fault

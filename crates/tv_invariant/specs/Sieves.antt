use Rattle.std.specs.Prelude.{List, [], ◌∷◌}
use Rattle.tv_candidates.specs.declared.candidate.Candidate.{Candidate}

-- the second list has, in order, candidates of the first that stay; those that it lacks fall
pub data Sieved (stays falls : Candidate → Type 0) : List Candidate → List Candidate → Type 0 where
  none : Sieved stays falls [] []
  stay : (c : Candidate) (old new : List Candidate) → stays c → Sieved stays falls old new → Sieved stays falls (c ∷ old) (c ∷ new)
  fall : (c : Candidate) (old new : List Candidate) → falls c → Sieved stays falls old new → Sieved stays falls (c ∷ old) new

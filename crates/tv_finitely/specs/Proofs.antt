-- The proofs of visits by the rounds of all components.
use Rattle.std.specs.Prelude.{◌≡◌, ℕ, List, ◌++◌, Bool}
use Rattle.std.specs.List.{AllZip, flat_map}
use Rattle.tv_cases.specs.LinearCases.{LinearCase}
use Rattle.tv_cert.specs.declared.node.Proof.{Proof}
use Rattle.tv_finitely.specs.declared.ranking.Ranking.{Ranking}
use Rattle.tv_finitely.specs.Obligations.{case_owes, piece_owes}
use Rattle.tv_finitely.specs.Ranked.{split_in, system_of, ranked_piece, ranked_pieces, all_pieces, IsProvedBy}
use Rattle.tv_finitely.specs.Splits.{marked_cases}

-- after the old proofs the new ones have one for each step over these cases that is from the location
pub record AreStepsOver (r : Ranking) (l : ℕ) (cases : List (LinearCase × Bool)) (old new : List Proof) : Type 0 where
  pub more : List Proof
  pub parts : new ≡ old ++ more
  pub each : AllZip IsProvedBy (flat_map (case_owes (system_of r) (all_pieces r) (ranked_piece r l)) cases) more

-- the same of all cases
abbrev pub AreStepsOf : Ranking → ℕ → List Proof → List Proof → Type 0
AreStepsOf r l old new = AreStepsOver r l (marked_cases (split_in r)) old new

-- one for each step from the first locations, location by location
abbrev pub AreProofsBelow : Ranking → ℕ → List Proof → Type 0
AreProofsBelow r l proofs = AllZip IsProvedBy (flat_map (piece_owes (split_in r) (all_pieces r)) (ranked_pieces r l)) proofs

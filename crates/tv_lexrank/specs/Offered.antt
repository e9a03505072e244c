-- The proofs of the node of a ranking.
use Rattle.std.specs.Prelude.{◌≡◌, ℕ, zero, suc, ◌<◌, List, [], ◌++◌, Some, slice_get}
use Rattle.std.specs.List.{AllZip}
use Rattle.tv_cases.specs.LinearCases.{LinearCase, leaving}
use Rattle.tv_cases.specs.Systems.{cases_of}
use Rattle.tv_cert.specs.declared.node.Marked.{Marked}
use Rattle.tv_cert.specs.declared.node.Proof.{Proof}
use Rattle.tv_cert.specs.declared.node.Proof.TheVariants.{Covered, Chosen}
use Rattle.tv_cert.specs.Claims.{about_with}
use Rattle.tv_cert.specs.Obligations.{Obligation, step_of, step_fall}
use Rattle.tv_cert.specs.Pieces.{pieces_at}
use Rattle.tv_shape.specs.Made.{IsOffered}
use Rattle.tv_lexrank.specs.declared.ranking.Ranking.{Ranking}
use Rattle.tv_lexrank.specs.Pieces.{ranked_piece}
use Rattle.tv_lexrank.specs.Steps.{ShowsStep}

-- the proof is a cover that shows the step over a case
abbrev pub IsStepProof : Ranking → ℕ → Proof → Type 0
IsStepProof r k (Covered tree) = ShowsStep r k tree
IsStepProof r k (Chosen tree) = ⊥

-- the first piece at each location is that of the ranking
abbrev pub ArePieces : Ranking → List Marked → Type 0
ArePieces r ps = (l : ℕ) → l < (cases_of r.about.now).locations → slice_get (pieces_at ps l) 0 ≡ Some (ranked_piece r l)

-- what a step owes at the piece of a location, where these are the pieces of the node with this number
abbrev pub step_owed : Ranking → ℕ → List Marked → ℕ → LinearCase → Obligation
step_owed r number ps l c =
    let about = about_with (cases_of r.about.now) in
    step_of number about (ranked_piece r l) ps (step_fall about (ranked_piece r l)) c

-- the proof is one for the step over a case from a location
abbrev pub IsOfferedAt : Ranking → ℕ → LinearCase → Proof → Type 0
IsOfferedAt r l c p = (number : ℕ) (ps : List Marked) → ArePieces r ps → IsOffered (step_owed r number ps l c) p

-- after the old proofs the new ones have one for each of the cases from a location
pub record AreStepsShown (r : Ranking) (l : ℕ) (cases : List LinearCase) (old new : List Proof) : Type 0 where
  pub more : List Proof
  pub parts : new ≡ old ++ more
  pub each : AllZip (IsOfferedAt r l) cases more

-- one for each of the cases from the first locations, location by location
abbrev pub AreShownBelow : Ranking → ℕ → List Proof → Type 0
AreShownBelow r zero proofs = proofs ≡ []
AreShownBelow r (suc l) proofs = (front : List Proof) × AreShownBelow r l front × AreStepsShown r l (leaving l (cases_of r.about.now).cases) front proofs

-- The proofs of the node of nested terms.
use Rattle.std.specs.Prelude.{◌≡◌, ℕ, List, [], ◌++◌}
use Rattle.std.specs.List.{AllZip, flat_map}
use Rattle.tv_formula.specs.Properties.{term}
use Rattle.tv_cases.specs.LinearCases.{LinearCase}
use Rattle.tv_cases.specs.Systems.{cases_of}
use Rattle.tv_cert.specs.declared.node.Marked.{Marked}
use Rattle.tv_cert.specs.declared.node.Proof.{Proof}
use Rattle.tv_cert.specs.declared.node.Proof.TheVariants.{Covered, Chosen}
use Rattle.tv_cert.specs.Claims.{about_with}
use Rattle.tv_cert.specs.Nodes.{piece_of}
use Rattle.tv_cert.specs.Obligations.{Obligation, step_of, step_fall}
use Rattle.tv_shape.specs.Made.{IsOffered}
use Rattle.tv_nested.specs.declared.ranking.Ranking.{Ranking}
use Rattle.tv_nested.specs.NodePieces.{nested_piece, ArePieces}
use Rattle.tv_nested.specs.Ranks.{ShowsStep}

-- the proof is a cover that shows the step over a case from a piece of its location
abbrev pub IsStepProof : Ranking → ℕ → ℕ → Proof → Type 0
IsStepProof r k q (Covered tree) = ShowsStep r k q tree
IsStepProof r k q (Chosen tree) = ⊥

-- what a step owes at a piece of a location, where these are the pieces of the node with this number
abbrev pub step_owed : Ranking → ℕ → List Marked → ℕ → ℕ → LinearCase → Obligation
step_owed r number ps l q c =
    let about = about_with (cases_of r.about.now) in
    step_of number about (nested_piece r l q) ps (step_fall about (nested_piece r l q)) c

-- the proof is one for the step over a case from a piece
abbrev pub IsOfferedAt : Ranking → ℕ → ℕ → LinearCase → Proof → Type 0
IsOfferedAt r l q c p = (number : ℕ) (ps : List Marked) → ArePieces r ps → IsOffered (step_owed r number ps l q c) p

-- after the old proofs the new ones have one for each of these cases from a piece
pub record AreStepsShown (r : Ranking) (l q : ℕ) (cases : List LinearCase) (old new : List Proof) : Type 0 where
  pub more : List Proof
  pub parts : new ≡ old ++ more
  pub each : AllZip (IsOfferedAt r l q) cases more

-- what a piece owes
abbrev pub owed_of : Ranking → ℕ → List Marked → Marked → List Obligation
owed_of r number ps p = piece_of number (about_with (cases_of r.about.now)) term ps [] p

-- the proofs are those that the pieces owe, one after the other
abbrev pub Offer : Ranking → List Marked → List Proof → Type 0
Offer r pieces proofs = (number : ℕ) (ps : List Marked) → ArePieces r ps → AllZip IsOffered (flat_map (owed_of r number ps) pieces) proofs

-- after the old proofs the new ones have those that the pieces owe
pub record AreOffered (r : Ranking) (pieces : List Marked) (old new : List Proof) : Type 0 where
  pub more : List Proof
  pub parts : new ≡ old ++ more
  pub offer : Offer r pieces more

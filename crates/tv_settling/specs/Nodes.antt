-- The node that shows that no run comes to a location.
use Rattle.std.specs.Prelude.{◌≡◌, ℕ, zero, suc, ◌<◌, List, [], ◌∷◌, ◌++◌, map}
use Rattle.std.specs.List.{AllZip}
use Rattle.tv_cases.specs.LinearCases.{LinearCase, CaseSystem, leaving}
use Rattle.tv_cases.specs.Systems.{cases_of}
use Rattle.tv_formula.specs.Forms.{never_at}
use Rattle.tv_farkas.specs.declared.fault.CoverFault.{CoverFault}
use Rattle.tv_cert.specs.declared.node.Kind.TheVariants as kind
use Rattle.tv_cert.specs.declared.node.Mark.TheVariants.{Go}
use Rattle.tv_cert.specs.declared.node.Marked.{Marked}
use Rattle.tv_cert.specs.declared.node.Node.{Node}
use Rattle.tv_cert.specs.declared.node.Proof.{Proof}
use Rattle.tv_cert.specs.Claims.{about_with}
use Rattle.tv_cert.specs.MarkedRows.{marked}
use Rattle.tv_cert.specs.Nodes.{pieces_of}
use Rattle.tv_cert.specs.Obligations.{About, Obligation, cover_of, step_of}
use Rattle.tv_cert.specs.Targets.{no_fall}
use Rattle.tv_rank.specs.Ways.{rows_at, case_at}
use Rattle.tv_lexrank.specs.Nodes.{IsPieceAt}
use Rattle.tv_shape.specs.Made.{IsFitted, IsOffered}
use Rattle.tv_settling.specs.Below.{pieces_below, elsewhere}
use Rattle.tv_settling.specs.Refusals.{RefusesOver}
use Rattle.tv_settling.specs.declared.barrier.Barrier.{Barrier}

-- ---- pieces
abbrev pub system_of : Barrier → CaseSystem
system_of b = cases_of b.about.now

abbrev pub asked : Barrier → About
asked b = about_with (system_of b)

-- the piece of the rows that are known at a location
abbrev pub known_piece : Barrier → ℕ → Marked
known_piece b l = marked l (system_of b).variables Go (rows_at b.known.now.pieces.items l) []

abbrev pub known_there : Barrier → ℕ → List Marked
known_there b l = known_piece b l ∷ []

-- these for all locations
abbrev pub known_pieces : Barrier → List Marked
known_pieces b = pieces_below (known_there b) (system_of b).locations

-- the pieces of all states that are not at the location
abbrev pub pieces_elsewhere : Barrier → List Marked
pieces_elsewhere b = pieces_below (elsewhere (system_of b).variables b.location) (system_of b).locations

-- ---- what is owed at the piece of a location, where the node has this number
-- that its states are not at the location
abbrev pub owed_hold : Barrier → ℕ → ℕ → Obligation
owed_hold b number l = cover_of number kind.Hold (asked b) (known_piece b l) (pieces_elsewhere b)

-- that a case leads from it into the known rows
abbrev pub owed_step : Barrier → ℕ → ℕ → LinearCase → Obligation
owed_step b number l c = step_of number (asked b) (known_piece b l) (known_pieces b) (λ c. no_fall) c

abbrev pub owed_at : Barrier → ℕ → ℕ → List Obligation
owed_at b number l = owed_hold b number l ∷ map (owed_step b number l) (leaving l (system_of b).cases)

-- ---- proofs of it, whatever number the node has
abbrev pub IsHoldProof : Barrier → ℕ → Proof → Type 0
IsHoldProof b l p = (number : ℕ) → IsOffered (owed_hold b number l) p

abbrev pub IsStepAt : Barrier → ℕ → LinearCase → Proof → Type 0
IsStepAt b l c p = (number : ℕ) → IsOffered (owed_step b number l c) p

abbrev pub IsStepProof : Barrier → ℕ → Proof → Type 0
IsStepProof b k p = let c = case_at (system_of b).cases k in IsStepAt b c.from c p

-- after the old proofs the new ones have one for each of the cases from a location
pub record AreStepsShown (b : Barrier) (l : ℕ) (cases : List LinearCase) (old new : List Proof) : Type 0 where
  pub more : List Proof
  pub parts : new ≡ old ++ more
  pub each : AllZip (IsStepAt b l) cases more

-- after the old proofs the new ones have one for all that is owed at a location
pub record AreShownAt (b : Barrier) (l : ℕ) (old new : List Proof) : Type 0 where
  pub more : List Proof
  pub parts : new ≡ old ++ more
  pub each : (number : ℕ) → AllZip IsOffered (owed_at b number l) more

-- one for all that is owed at the first locations, location by location
abbrev pub AreShownBelow : Barrier → ℕ → List Proof → Type 0
AreShownBelow b zero proofs = proofs ≡ []
AreShownBelow b (suc l) proofs = (front : List Proof) × AreShownBelow b l front × AreShownAt b l front proofs

-- A node that shows that no run from the known states comes to the location: it fits, all its obligations are met, whatever number it has,
-- and at each location it has the rows that are known there.
pub record ShowsNever (b : Barrier) (node : Node) : Type 0 where
  pub fitted : IsFitted (asked b) (never_at b.location) 1 node
  pub pieces : (l : ℕ) → l < (system_of b).locations → IsPieceAt (pieces_of node) l (rows_at b.known.now.pieces.items l)

-- why it was not made
abbrev pub Refuses : Barrier → CoverFault → Type 0
Refuses b f = RefusesOver (system_of b) b.known.now.pieces.items b.location b.budget.now f

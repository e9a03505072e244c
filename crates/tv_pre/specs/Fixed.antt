-- The sides of fixpoints, and what their nodes ask and owe.
use Rattle.std.specs.Prelude.{◌≡◌, ◌⊎◌, ℕ, List, ◌++◌, Bool, true, false}
use Rattle.std.specs.List.{flat_map}
use Rattle.tv_program.specs.Steps.{State}
use Rattle.tv_linear.specs.declared.region.Piece.{Piece}
use Rattle.tv_linear.specs.declared.region.Region.{Region}
use Rattle.tv_cases.specs.LinearCases.{CaseSystem, CaseSteps}
use Rattle.tv_cert.specs.declared.node.Marked.{Marked}
use Rattle.tv_cert.specs.declared.node.Proof.{Proof}
use Rattle.tv_cert.specs.Claims.{about_with}
use Rattle.tv_cert.specs.Obligations.{Obligation, fix_of, end_sides, hold_side}
use Rattle.tv_known.specs.Rounds.{EndSides, HoldSide, StaysIn}
use Rattle.tv_region.specs.Regions.{IsRegion}
use Rattle.tv_region.specs.StepRegions.{InState}
use Rattle.tv_pre.specs.declared.sides.Sides.{Sides}
use Rattle.tv_pre.specs.Pieces.{InPieces, AreMarked}
use Rattle.tv_pre.specs.Inclusions.{OfPieces}
use Rattle.tv_shape.specs.Made.{Offers}
use Rattle.tv_pre.specs.Parts.{joined_pieces}
use Rattle.tv_pre.specs.Questions.{Question, lies, AsksOf, AsksEach, AsksStay}

-- the regions of both arguments are over the cases
pub record AreOver (about : CaseSystem) (sides : Sides) : Type 0 where
  pub first : IsRegion about.variables about.locations sides.first.now
  pub second : IsRegion about.variables about.locations sides.second.now

-- the state is where the argument holds that is to hold on the way
abbrev pub OnWay : Sides → State → Type 0
OnWay sides s = HoldSide sides.shape (InState sides.first.now) (InState sides.second.now) s

-- the state is where the arguments hold that are to hold at the end
abbrev pub AtEnd : Sides → State → Type 0
AtEnd sides s = EndSides sides.shape (InState sides.first.now) (InState sides.second.now) s

-- the region has the pieces of these regions, in order
pub record IsJoined (about : CaseSystem) (regions : List Region) (region : Region) : Type 0 where
  pub over : IsRegion about.variables about.locations region
  pub pieces : region.pieces.items ≡ joined_pieces regions

-- what pieces of a node owe that are done, or that go on, where the node and those of the arguments have these pieces
abbrev pub fixed_owes : CaseSystem → Sides → ℕ → List Marked → List Marked → List Marked → Bool → Marked → List Obligation
fixed_owes about sides number all first second go p = fix_of number (about_with about) sides.path sides.shape all first second p go

-- whether pieces lie where the arguments hold that are to hold at the end
abbrev pub AsksEnds : Sides → List Piece → Question → Type 0
AsksEnds sides done = AsksOf (λ q. AsksEach q (end_sides sides.shape sides.first.now sides.second.now)) done

-- whether the piece lies where the argument holds that is to hold on the way
abbrev pub AsksWay : Sides → Piece → Question → Type 0
AsksWay sides q a = a ≡ lies q (hold_side sides.shape sides.first.now sides.second.now).pieces.items

-- ---- for ever
-- the pieces that are done are where the fixpoint ends; the others are on the way, and their steps stay in all of them
pub record AreStaying (about : CaseSystem) (sides : Sides) (done onward own : List Piece) : Type 0 where
  pub ends : OfPieces about done (AtEnd sides)
  pub hold : OfPieces about onward (OnWay sides)
  pub stays : OfPieces about onward (StaysIn (CaseSteps about) sides.path (InPieces own))

-- the proofs of what these pieces owe, first those that are done
abbrev pub ShowsStaying : CaseSystem → Sides → List Piece → List Piece → List Piece → List Proof → Type 0
ShowsStaying about sides done onward own proofs =
    (number : ℕ) (all first second ps qs : List Marked) → AreMarked first sides.first.now.pieces.items → AreMarked second sides.second.now.pieces.items →
    AreMarked all own → AreMarked ps done → AreMarked qs onward →
    Offers (flat_map (fixed_owes about sides number all first second false) ps ++ flat_map (fixed_owes about sides number all first second true) qs) proofs

abbrev pub AsksStaying : CaseSystem → Sides → List Piece → List Piece → List Piece → Question → Type 0
AsksStaying about sides done onward own a =
    AsksEnds sides done a ⊎ AsksOf (λ q b. AsksWay sides q b ⊎ AsksStay about sides.path q own b) onward a

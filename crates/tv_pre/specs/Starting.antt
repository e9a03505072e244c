-- The states at the start, and whether they lie in pieces.
use Rattle.std.specs.Prelude.{◌≡◌, List, [], All, ℤ, slice_get, Some, Contains}
use Rattle.tv_linear.specs.Linear.{Linear, IsWithin}
use Rattle.tv_linear.specs.declared.cover.CoverTree.{CoverTree}
use Rattle.tv_linear.specs.declared.region.Piece.{Piece}
use Rattle.tv_farkas.specs.Paths.{IsWholePoint}
use Rattle.tv_farkas.specs.Refuting.{AreShort}
use Rattle.tv_cases.specs.LinearCases.{CaseSystem}
use Rattle.tv_cover.specs.declared.covered.Covered.{Covered}
use Rattle.tv_cover.specs.declared.covered.Covered.TheVariants.{Tree, Hole}
use Rattle.tv_cover.specs.Covering.{IsHole}
use Rattle.tv_cover.specs.Targets.{IsInTarget}
use Rattle.tv_region.specs.Regions.{lists_at}
use Rattle.tv_choice.specs.Leading.{piece_rows}
use Rattle.tv_pre.specs.Offers.{ShowsInside}
use Rattle.tv_pre.specs.Questions.{Question, lies}
use Rattle.tv_pre.specs.declared.starting.Inside.{Inside}

-- ---- any piece

-- the cover is offered for an obligation that the piece lies in such pieces, and it does
pub record CoversPiece (about : CaseSystem) (q : Piece) (lists : List (List Linear)) (tree : CoverTree) : Type 0 where
  pub shows : (into : List Piece) → lists ≡ lists_at q.location into → ShowsInside about q into tree
  pub inside : (xs : List ℤ) → IsWholePoint about.variables (piece_rows q) xs → IsInTarget lists xs

-- the values, below 2^62 in magnitude, are in the piece and lie in none of the lists
pub record LeavesPiece (about : CaseSystem) (q : Piece) (lists : List (List Linear)) (values : List ℤ) : Type 0 where
  pub hole : IsHole about.variables lists (piece_rows q) values
  pub short : AreShort values

abbrev pub CoversOrLeaves : CaseSystem → Piece → List (List Linear) → Covered → Type 0
CoversOrLeaves about q lists (Tree cover) = CoversPiece about q lists cover
CoversOrLeaves about q lists (Hole values) = LeavesPiece about q lists values.items

-- ---- the start

-- the piece of all states at the start
pub record IsStart (about : CaseSystem) (q : Piece) : Type 0 where
  pub place : q.location ≡ about.start
  pub bare : piece_rows q ≡ []

-- a cover that all states at the start lie in the pieces, or values at the start that lie in none of them
abbrev pub StartAnswer : CaseSystem → List Piece → Covered → Type 0
StartAnswer about into (Tree cover) = (q : Piece) × IsStart about q × ShowsInside about q into cover
StartAnswer about into (Hole values) = IsHole about.variables (lists_at about.start into) [] values.items

-- whether all states at the start lie in the pieces
abbrev pub AsksStart : CaseSystem → List Piece → Question → Type 0
AsksStart about into a = (q : Piece) × IsStart about q × (a ≡ lies q into)

-- the values, below 2^62 in magnitude, are in the piece at the place among those at the start
pub record IsInside (about : CaseSystem) (pieces : List Piece) (found : Inside) : Type 0 where
  pub rows : List Linear
  pub there : slice_get (lists_at about.start pieces) found.piece ≡ Some rows
  pub point : IsWholePoint about.variables rows found.values.items
  pub narrow : All (IsWithin 62) found.values.items

-- no values at the start are in any of the pieces
abbrev pub HasNoStart : CaseSystem → List Piece → Type 0
HasNoStart about pieces =
    (rows : List Linear) → Contains (lists_at about.start pieces) rows → (xs : List ℤ) → IsWholePoint about.variables rows xs → ⊥

-- whether a piece at the start lies in no piece at all
abbrev pub AsksEmpty : CaseSystem → List Piece → Question → Type 0
AsksEmpty about pieces a = (q : Piece) × Contains pieces q × (q.location ≡ about.start) × (a ≡ lies q [])

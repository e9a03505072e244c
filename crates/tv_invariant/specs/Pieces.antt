-- The rows of candidates as pieces.
use Rattle.std.specs.Prelude.{◌≡◌, ℕ, List, length, All, Some}
use Rattle.std.specs.List.{slice_get}
use Rattle.tv_linear.specs.Linear.{columns}
use Rattle.tv_linear.specs.declared.region.Piece.{Piece}
use Rattle.tv_linear.specs.declared.region.Region.{Region}
use Rattle.tv_cases.specs.LinearCases.{CaseSystem}
use Rattle.tv_candidates.specs.declared.candidate.Candidate.{Candidate}
use Rattle.tv_invariant.specs.Rows.{IsStronger}
use Rattle.tv_invariant.specs.Places.{rows_at}

-- the piece of the rows at a location, over v variables, without some that others imply
pub record IsPieceOf (v : ℕ) (list : List Candidate) (l : ℕ) (piece : Piece) : Type 0 where
  pub place : piece.location ≡ l
  pub wide : piece.poly.columns ≡ v
  pub rows : IsStronger (rows_at l list) piece.poly.rows.items
  pub over : All (λ r. columns r ≡ v) piece.poly.rows.items

-- at each place in the list of pieces stands the piece of the location with that number
abbrev pub AreInPlace : ℕ → List Candidate → List Piece → Type 0
AreInPlace v list pieces = (l : ℕ) (piece : Piece) → slice_get pieces l ≡ Some piece → IsPieceOf v list l piece

-- a piece for each location, in their order
pub record ArePiecesOf (about : CaseSystem) (list : List Candidate) (region : Region) : Type 0 where
  pub variables : region.variables ≡ about.variables
  pub locations : region.locations ≡ about.locations
  pub one_each : length region.pieces.items ≡ about.locations
  pub in_place : AreInPlace about.variables list region.pieces.items

use Rattle.std.specs.Prelude.{◌≡◌, ℕ, ℤ, List, All, Contains}
use Rattle.tv_linear.specs.Linear.{IsMet}
use Rattle.tv_linear.specs.declared.region.Poly.{Poly}
use Rattle.tv_linear.specs.declared.region.Piece.{Piece}
use Rattle.tv_linear.specs.declared.region.Region.{Region}

-- the point meets each row
abbrev pub InPoly : List ℤ → Poly → Type 0
InPoly xs poly = All (IsMet xs) poly.rows.items

-- the state is at the piece's location and in its poly
pub record InPiece (location : ℕ) (xs : List ℤ) (piece : Piece) : Type 0 where
  pub place : location ≡ piece.location
  pub inside : InPoly xs piece.poly

-- the state is in some piece
abbrev pub InRegion : ℕ → List ℤ → Region → Type 0
InRegion location xs region = (piece : Piece) × Contains region.pieces.items piece × InPiece location xs piece

-- Regions that are equal up to where their lists lie in memory.
use Rattle.std.specs.Prelude.{◌≡◌}
use Rattle.std.specs.List.{AllZip}
use Rattle.tv_linear.specs.declared.region.Piece.{Piece}
use Rattle.tv_linear.specs.declared.region.Region.{Region}

-- the pieces are at one location, and have as many columns and equal rows
pub record SamePiece (first second : Piece) : Type 0 where
  pub location : second.location ≡ first.location
  pub columns : second.poly.columns ≡ first.poly.columns
  pub rows : second.poly.rows.items ≡ first.poly.rows.items

-- the regions are over as many variables and locations, and have the same pieces in order
pub record SameRegion (first second : Region) : Type 0 where
  pub variables : second.variables ≡ first.variables
  pub locations : second.locations ≡ first.locations
  pub pieces : AllZip SamePiece first.pieces.items second.pieces.items

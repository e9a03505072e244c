-- The pieces of a region and those of a node.
use Rattle.std.specs.Prelude.{◌≡◌, ℕ, List, All, Contains}
use Rattle.std.specs.List.{AllZip}
use Rattle.tv_program.specs.Steps.{State}
use Rattle.tv_linear.specs.Linear.{Linear}
use Rattle.tv_linear.specs.Regions.{InPiece}
use Rattle.tv_linear.specs.declared.region.Piece.{Piece}
use Rattle.tv_cases.specs.LinearCases.{CaseSystem}
use Rattle.tv_cert.specs.declared.node.Mark.{Mark}
use Rattle.tv_cert.specs.declared.node.Marked.{Marked}
use Rattle.tv_cert.specs.MarkedRows.{MarkedRows, marked}
use Rattle.tv_cert.specs.Pieces.{place_of, rows_of}
use Rattle.tv_region.specs.Regions.{IsPieceOf}
use Rattle.tv_choice.specs.Leading.{piece_rows}

-- the pieces are over the variables, at locations of the program
abbrev pub ArePieces : CaseSystem → List Piece → Type 0
ArePieces about qs = All (IsPieceOf about.variables about.locations) qs

-- the state is in one of the pieces
abbrev pub InPieces : List Piece → State → Type 0
InPieces qs s = (q : Piece) × Contains qs q × InPiece s.location s.values q

-- the piece of a node has the location and the rows of that of a region
abbrev pub IsMarked : Marked → Piece → Type 0
IsMarked p q = (place_of p ≡ q.location) × (rows_of p ≡ piece_rows q)

-- as many pieces, in order
abbrev pub AreMarked : List Marked → List Piece → Type 0
AreMarked ps qs = AllZip IsMarked ps qs

-- the piece of a node over n variables that has the location and the rows
abbrev pub marked_as : ℕ → Mark → List Linear → Piece → MarkedRows
marked_as n mark ranks q = marked q.location n mark (piece_rows q) ranks

-- Nodes as they are put together.
use Rattle.std.specs.Prelude.{ℕ, ◌<◌, ◌^◌, List, [], length, map, All, Bool}
use Rattle.std.specs.List.{AllZip, flat_map}
use Rattle.tv_linear.specs.declared.region.Piece.{Piece}
use Rattle.tv_linear.specs.declared.region.Region.{Region}
use Rattle.tv_cases.specs.LinearCases.{CaseSystem}
use Rattle.tv_cert.specs.declared.node.Mark.TheVariants.{Go}
use Rattle.tv_cert.specs.declared.node.Marked.{Marked}
use Rattle.tv_cert.specs.declared.node.Node.{Node}
use Rattle.tv_cert.specs.declared.node.Proof.{Proof}
use Rattle.tv_cert.specs.Obligations.{Obligation}
use Rattle.tv_cert.specs.Shapes.{PieceShape}
use Rattle.tv_shape.specs.Made.{HasOwn, Offers}
use Rattle.tv_pre.specs.Pieces.{AreMarked, marked_as}
use Rattle.tv_pre.specs.Around.{Around}

-- the pieces are those of the region, may be done where `ends` says so, and have `ranks` ranks where they go on
pub record ArePiecesOf (about : CaseSystem) (region : Region) (ends : Bool) (ranks : ℕ) (pieces : List Marked) : Type 0 where
  pub same : AreMarked pieces region.pieces.items
  pub shape : All (PieceShape about ranks ends) pieces

-- the node of such pieces, of these children and proofs
pub record IsMade (about : CaseSystem) (region : Region) (ends : Bool) (ranks : ℕ) (pieces : List Marked) (children : List Node) (proofs : List Proof) (node : Node) : Type 0 where
  pub own : HasOwn node pieces ranks children proofs
  pub are : ArePiecesOf about region ends ranks pieces
  pub bounded : length pieces < 2 ^ 32
  pub small : ranks < 2 ^ 32

-- the pieces of a region; each goes on without ranks
abbrev pub plain_pieces : ℕ → Region → List Marked
plain_pieces n region = map (marked_as n Go []) region.pieces.items

-- the node of such pieces, with proofs of what they owe, wherever the node stands
pub record IsPlainPart (fits : Around → Marked → Piece → Type 0) (owes : Around → Marked → List Obligation) (about : CaseSystem) (region : Region) (children : List Node) (node : Node) : Type 0 where
  pub proofs : List Proof
  pub made : (ends : Bool) → IsMade about region ends 0 (plain_pieces about.variables region) children proofs node
  pub offers : (a : Around) → AllZip (fits a) (plain_pieces about.variables region) region.pieces.items → Offers (flat_map (owes a) (plain_pieces about.variables region)) proofs

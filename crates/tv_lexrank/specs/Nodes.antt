-- The node of a ranking.
use Rattle.std.specs.Prelude.{◌≡◌, ℕ, ◌<◌, List, [], length, Some, slice_get}
use Rattle.tv_linear.specs.Linear.{Linear}
use Rattle.tv_linear.specs.declared.region.Piece.{Piece}
use Rattle.tv_cases.specs.LinearCases.{CaseSystem}
use Rattle.tv_formula.specs.Properties.{term}
use Rattle.tv_cert.specs.declared.node.Marked.{Marked}
use Rattle.tv_cert.specs.declared.node.Node.{Node}
use Rattle.tv_cert.specs.Claims.{about_with}
use Rattle.tv_cert.specs.Nodes.{pieces_of, entries}
use Rattle.tv_cert.specs.Obligations.{AllMet}
use Rattle.tv_cert.specs.Pieces.{pieces_at, rows_of}
use Rattle.tv_shape.specs.Fitting.{NodesFit}
use Rattle.tv_rank.specs.Ways.{rows_at}
use Rattle.tv_lexrank.specs.declared.shown.CaseShown.{CaseShown}
use Rattle.tv_lexrank.specs.Shown.{AreShown}

-- the first piece at a location has these rows
pub record IsPieceAt (pieces : List Marked) (l : ℕ) (rows : List Linear) : Type 0 where
  pub piece : Marked
  pub first : slice_get (pieces_at pieces l) 0 ≡ Some piece
  pub has : rows_of piece ≡ rows

-- A node that shows that every run from the known states ends: it fits, all its obligations are met, whatever number it has, and at each
-- location it has one piece, with the rows that are known there.
pub record ShowsEnd (about : CaseSystem) (known : List Piece) (node : Node) : Type 0 where
  pub fits : NodesFit (about_with about) term node
  pub met : (number : ℕ) → AllMet (entries number (about_with about) term node)
  pub pieces : (l : ℕ) → l < about.locations → IsPieceAt (pieces_of node) l (rows_at known l)
  pub single : (l : ℕ) → l < about.locations → length (pieces_at (pieces_of node) l) ≡ 1

-- the same from all states, where no rows are known
abbrev pub IsRankedNode : CaseSystem → Node → Type 0
IsRankedNode about node = ShowsEnd about [] node

-- Such a node, and what shows each case by its ranks.
pub record IsRankedBy (about : CaseSystem) (known : List Piece) (node : Node) (shown : List CaseShown) : Type 0 where
  pub ends : ShowsEnd about known node
  pub each : AreShown about known (pieces_of node) shown

-- The shape of visits, whether or not their obligations are met.
use Rattle.std.specs.Prelude.{◌≡◌, [], All, false}
use Rattle.std.specs.List.{AllZip}
use Rattle.tv_linear.specs.declared.cover.CoverTree.{CoverTree}
use Rattle.tv_linear.specs.Known.{given}
use Rattle.tv_cert.specs.declared.node.Node.{Node}
use Rattle.tv_cert.specs.Shapes.{CoverShape, PieceShape, ProofShape, owed_count}
use Rattle.tv_cert.specs.Targets.{owed_into, no_fall}
use Rattle.tv_shape.specs.Parts.{children_of}
use Rattle.tv_finitely.specs.Obligations.{VisitParts, offered_by, steps_owed}
use Rattle.tv_finitely.specs.Splits.{SplitSystem}

-- Each piece goes on, lies at a location of the program, is over its variables and has as many ranks as is said. There is one cover for each
-- piece and each case from its location, in order, and their counts and those of the root are in range.
pub record VisitShape (s : SplitSystem) (v : VisitParts) : Type 0 where
  pub each : All (PieceShape s.system v.ranks false) v.pieces
  pub offered : AllZip (λ o p. ProofShape o.owed p) (steps_owed s v.pieces) v.proofs
  pub root : CoverShape s.system.variables (owed_count (owed_into v.pieces s.system.start given no_fall)) 0 v.root

-- the node has no children, and with the cover it has the shape of visits
pub record NodeVisits (s : SplitSystem) (node : Node) (root : CoverTree) : Type 0 where
  pub childless : children_of node ≡ []
  pub shape : VisitShape s (offered_by node root)

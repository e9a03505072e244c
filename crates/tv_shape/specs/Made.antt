-- Nodes as they are put together.
use Rattle.std.specs.Prelude.{◌≡◌, ℕ, List, All, Some}
use Rattle.std.specs.List.{AllZip}
use Rattle.tv_formula.specs.Properties.{Property}
use Rattle.tv_cert.specs.declared.node.Marked.{Marked}
use Rattle.tv_cert.specs.declared.node.Proof.{Proof}
use Rattle.tv_cert.specs.declared.node.Node.{Node, out-Node}
use Rattle.tv_cert.specs.NodeViews.{pieces_list}
use Rattle.tv_cert.specs.Nodes.{entries}
use Rattle.tv_cert.specs.Obligations.{About, Obligation, OwedMet, AllMet}
use Rattle.tv_cert.specs.Shapes.{ProofShape, HasShape}
use Rattle.tv_shape.specs.Fitting.{NodeNarrow, GoesWithin}
use Rattle.tv_shape.specs.Narrow.{PieceNarrow, ProofNarrow}

-- the parts of a node
pub record HasOwn (node : Node) (pieces : List Marked) (ranks : ℕ) (children : List Node) (proofs : List Proof) : Type 0 where
  pub pieces_are : pieces_list node ≡ pieces
  pub ranks_are : (out-Node node).ranks ≡ ranks
  pub children_are : (out-Node node).children.items ≡ children
  pub proofs_are : (out-Node node).proofs.items ≡ proofs
  pub narrow : All PieceNarrow pieces

-- the node fits the formula at this depth, and its obligations and those of the nodes below it are met, whatever number it has
pub record IsFitted (about : About) (f : Property) (depth : ℕ) (node : Node) : Type 0 where
  pub shape : HasShape about f node
  pub narrow : NodeNarrow node
  pub within : GoesWithin depth node
  pub met : (number : ℕ) → AllMet (entries number about f node)

-- the proof meets the obligation, and has its shape and narrow numbers
pub record IsOffered (o : Obligation) (p : Proof) : Type 0 where
  pub shape : ProofShape o.owed p
  pub met : OwedMet o.owed (Some p)
  pub narrow : ProofNarrow p

-- one such proof for each obligation, in order
abbrev pub Offers : List Obligation → List Proof → Type 0
Offers obligations proofs = AllZip IsOffered obligations proofs

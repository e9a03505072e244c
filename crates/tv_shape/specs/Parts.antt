-- The lists that a node holds.
use Rattle.std.specs.Prelude.{ℕ, List}
use Rattle.tv_cert.specs.declared.node.Proof.{Proof}
use Rattle.tv_cert.specs.declared.node.Node.{Node, out-Node}

abbrev pub children_of : Node → List Node
children_of node = (out-Node node).children.items

abbrev pub proofs_of : Node → List Proof
proofs_of node = (out-Node node).proofs.items

abbrev pub ranks_at : Node → ℕ
ranks_at node = (out-Node node).ranks

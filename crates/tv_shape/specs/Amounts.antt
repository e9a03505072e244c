-- How many proofs the nodes of a certificate hold.
use Rattle.std.specs.Prelude.{ℕ, ◌+◌, length}
use Rattle.tv_cert.specs.declared.node.Node.{Node, Node', Row_of-Node, end_of-Node, more_of-Node}

abbrev mutual
  -- the proofs of the node and of those below it
  pub proofs_below : Node → ℕ
  proofs_below (Node' ps m shape kids proofs) = kid_proofs kids + length proofs.items

  pub kid_proofs : {k : _} → Row_of-Node k → ℕ
  kid_proofs end_of-Node = 0
  kid_proofs (more_of-Node a kids) = proofs_below a + kid_proofs kids

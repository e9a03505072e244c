-- Nodes that are equal up to where their lists lie in memory.
use Rattle.std.specs.Prelude.{◌≡◌}
use Rattle.std.specs.List.{AllZip}
use Rattle.tv_cert.specs.declared.node.Node.{Node, Node', Row_of-Node, end_of-Node, more_of-Node}
use Rattle.tv_copy.specs.SameProofs.{SameProof}

abbrev mutual
  -- the nodes have equal pieces and as many ranks, and the same proofs and children in order
  pub SameNode : Node → Node → Type 0
  SameNode (Node' ps m shape kids proofs) (Node' qs n form others offers) =
      (qs ≡ ps) × (n ≡ m) × SameKids kids others × AllZip SameProof proofs.items offers.items

  pub SameKids : {j k : _} → Row_of-Node j → Row_of-Node k → Type 0
  SameKids end_of-Node end_of-Node = Unit {0}
  SameKids end_of-Node (more_of-Node b others) = ⊥
  SameKids (more_of-Node a kids) end_of-Node = ⊥
  SameKids (more_of-Node a kids) (more_of-Node b others) = SameNode a b × SameKids kids others

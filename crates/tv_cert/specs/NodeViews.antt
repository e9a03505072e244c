use Rattle.std.specs.Prelude.{ℕ, List}
use Rattle.tv_formula.specs.Properties.{Property}
use Rattle.tv_cert.specs.declared.node.Marked.{Marked}
use Rattle.tv_cert.specs.declared.node.Node.{Node, Node', out-Node}
use Rattle.tv_cert.specs.Obligations.{About, Entry, paired}
use Rattle.tv_cert.specs.Nodes.{kid_pieces, own_of}

-- the pieces of a node
abbrev pub pieces_list : Node → List Marked
pieces_list node = (out-Node node).pieces

-- the node's own entries
abbrev pub own_entries : ℕ → About → Property → Node → List Entry
own_entries number about f (Node' ps m shape kids proofs) = paired (own_of number about f ps (kid_pieces kids)) proofs.items

use Rattle.std.proofs.Common.{◌≡◌, ℕ, zero, suc, ◌+◌, ◌<◌, ◌≤◌, List, [], ◌∷◌, length, map, get_or, arith, refl, sym, ap, ◌∙◌}
use Rattle.tv_cert.specs.declared.node.Proof.{Proof}
use Rattle.tv_cert.specs.declared.node.Node.{Node, Node', Row_of-Node, end_of-Node, more_of-Node, items-the_row-Node, out-Node}
use Rattle.tv_cert.specs.declared.node.Node.{outs-Node', items_shown-the_row-Node-0}
use Rattle.tv_cert.specs.Obligations.{Obligation, paired}
use Rattle.tv_cert.specs.Nodes.{pieces_of, kid_pieces, size, sizes}
use Rattle.tv_cert.specs.NodeViews.{pieces_list}

-- ---- children as a list

abbrev pub sizes_list : List Node → ℕ
sizes_list [] = 0
sizes_list (a ∷ kids) = size a + sizes_list kids

abbrev pub kids_of : Node → List Node
kids_of node = (out-Node node).children.items

sizes_is : {k : _} (kids : Row_of-Node k) → sizes kids ≡ sizes_list (items-the_row-Node k kids)
sizes_is end_of-Node = refl
sizes_is (more_of-Node a kids) = ap (λ n. size a + n) (sizes_is kids)

pub out_is : (ps : _) (m : _) (shape : _) (kids : _) (proofs : _) → kids_of (Node' ps m shape kids proofs) ≡ items-the_row-Node _ kids
out_is ps m shape kids proofs = ap (λ x. x.children.items) (outs-Node' ps m shape kids proofs) ∙ items_shown-the_row-Node-0 shape kids

pub size_is : (node : Node) → size node ≡ suc (sizes_list (kids_of node))
size_is (Node' ps m shape kids proofs) = ap suc (sizes_is kids ∙ ap sizes_list (sym (out_is ps m shape kids proofs)))

-- ---- a node's own entries, by its lists
abbrev pub proofs_list : Node → List Proof
proofs_list node = (out-Node node).proofs.items

pub pieces_are : (node : Node) → pieces_of node ≡ pieces_list node
pieces_are (Node' ps m shape kids proofs) = sym (ap (λ x. x.pieces) (outs-Node' ps m shape kids proofs))

pub kid_pieces_are : {k : _} (kids : Row_of-Node k) → kid_pieces kids ≡ map pieces_list (items-the_row-Node k kids)
kid_pieces_are end_of-Node = refl
kid_pieces_are (more_of-Node a kids) = (λ i. pieces_are a i ∷ kid_pieces_are kids i)

-- there are as many entries as obligations
pub length-paired : (os : List Obligation) (proofs : List Proof) → length (paired os proofs) ≡ length os
length-paired [] proofs = refl
length-paired (o ∷ os) [] = ap suc (length-paired os [])
length-paired (o ∷ os) (p ∷ proofs) = ap suc (length-paired os proofs)

-- a child has no more nodes than the children together
pub size_there : (kids : List Node) (i : ℕ) → i < length kids → (a : Node) → a ≡ get_or kids i a → size a ≤ sizes_list kids
size_there [] i below a is = absurd (omega arith)
size_there (b ∷ kids) zero below a is = let z = ap size is in omega (arith, z)
size_there (b ∷ kids) (suc i) below a is = let z = size_there kids i (omega arith) a is in omega (arith, z)

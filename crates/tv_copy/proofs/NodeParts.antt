-- Nodes that are the same, by their lists.
use Rattle.std.proofs.Common.{◌≡◌, ℕ, List, sym, ap, ◌∙◌, subst}
use Rattle.std.specs.Global.{Vec}
use Rattle.std.specs.List.{AllZip}
use Rattle.tv_cert.specs.declared.node.Marked.{Marked}
use Rattle.tv_cert.specs.declared.node.Proof.{Proof}
use Rattle.tv_cert.specs.declared.node.Node.{Node, Node', Row_of-Node, end_of-Node, more_of-Node, items-the_row-Node, outs-Node'}
use Rattle.tv_cert.specs.declared.node.Node.TheViews.{roll-Node, out-roll-Node}
use Rattle.tv_cert.proofs.NodeLemmas.{kids_of, proofs_list, out_is}
use Rattle.tv_cert.specs.NodeViews.{pieces_list}
use Rattle.tv_shape.specs.Parts.{ranks_at}
use Rattle.tv_copy.specs.SameProofs.{SameProof}
use Rattle.tv_copy.specs.SameNodes.{SameNode, SameKids}

kids_same : {j k : _} (kids : Row_of-Node j) (others : Row_of-Node k) → AllZip SameNode (items-the_row-Node j kids) (items-the_row-Node k others) → SameKids kids others
kids_same end_of-Node end_of-Node h = tt
kids_same end_of-Node (more_of-Node b others) h = absurd h
kids_same (more_of-Node a kids) end_of-Node h = absurd h
kids_same (more_of-Node a kids) (more_of-Node b others) h = (h.0, kids_same kids others h.1)

pub node_same : (a b : Node) → pieces_list b ≡ pieces_list a → ranks_at b ≡ ranks_at a → AllZip SameNode (kids_of a) (kids_of b) → AllZip SameProof (proofs_list a) (proofs_list b) → SameNode a b
node_same (Node' ps m shape kids proofs) (Node' qs n form others offers) pieces ranks below same = (
  sym (ap (λ x. x.pieces) (outs-Node' qs n form others offers)) ∙ pieces ∙ ap (λ x. x.pieces) (outs-Node' ps m shape kids proofs),
  sym (ap (λ x. x.ranks) (outs-Node' qs n form others offers)) ∙ ranks ∙ ap (λ x. x.ranks) (outs-Node' ps m shape kids proofs),
  kids_same kids others (subst (λ z. AllZip SameNode z (items-the_row-Node _ others)) (out_is ps m shape kids proofs) (subst (λ z. AllZip SameNode (kids_of (Node' ps m shape kids proofs)) z) (out_is qs n form others offers) below)),
  subst (λ z. AllZip SameProof z offers.items) (ap (λ x. x.proofs.items) (outs-Node' ps m shape kids proofs)) (subst (λ z. AllZip SameProof (proofs_list (Node' ps m shape kids proofs)) z) (ap (λ x. x.proofs.items) (outs-Node' qs n form others offers)) same),
)

-- a node that is made of such parts is the same
pub made_same : (a : Node) (pieces : List Marked) (ranks : ℕ) (kids : Vec Node) (proofs : Vec Proof) → pieces ≡ pieces_list a → ranks ≡ ranks_at a → AllZip SameNode (kids_of a) kids.items → AllZip SameProof (proofs_list a) proofs.items → SameNode a (roll-Node (record { pieces = pieces; ranks = ranks; children = kids; proofs = proofs }))
made_same a pieces ranks kids proofs one two below same =
    let e = out-roll-Node (record { pieces = pieces; ranks = ranks; children = kids; proofs = proofs }) in
    node_same a (roll-Node (record { pieces = pieces; ranks = ranks; children = kids; proofs = proofs })) (ap (λ x. x.pieces) e ∙ one) (ap (λ x. x.ranks) e ∙ two)
    (subst (AllZip SameNode (kids_of a)) (sym (ap (λ x. x.children.items) e)) below)
    (subst (AllZip SameProof (proofs_list a)) (sym (ap (λ x. x.proofs.items) e)) same)

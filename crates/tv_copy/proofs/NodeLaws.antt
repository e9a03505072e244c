-- What is so of a node is so of one that is the same.
use Rattle.std.proofs.Common.{◌≡◌, ℕ, suc, ◌+◌, ◌≤◌, List, [], ◌∷◌, ◌++◌, length, refl, sym, ap, subst}
use Rattle.std.specs.Prelude.{All}
use Rattle.std.specs.List.{AllZip}
use Rattle.tv_cases.specs.LinearCases.{CaseSystem}
use Rattle.tv_cert.specs.declared.node.Marked.{Marked}
use Rattle.tv_cert.specs.declared.node.Proof.{Proof}
use Rattle.tv_cert.specs.declared.node.Node.{Node, Node', Row_of-Node, end_of-Node, more_of-Node}
use Rattle.tv_cert.specs.Nodes.{pieces_of, kid_pieces, size, sizes, node_owes, node_entries, children_entries}
use Rattle.tv_cert.specs.Obligations.{Entry, AllMet, paired}
use Rattle.tv_cert.specs.Shapes.{ProofShape, OwnShape, NodeShape, KidsShape}
use Rattle.tv_cert.specs.Statements.{Statement, Statements, no_statement, statement, parts_of}
use Rattle.tv_cert.proofs.FailingLemmas.{all_join}
use Rattle.tv_shape.specs.Depths.{proof_splits}
use Rattle.tv_shape.specs.Fitting.{NodeNarrow, KidsNarrow, GoesWithin, KidsGoWithin}
use Rattle.tv_shape.specs.Narrow.{CountNarrow, PieceNarrow, ProofNarrow}
use Rattle.tv_copy.specs.SameProofs.{SameProof}
use Rattle.tv_copy.specs.SameNodes.{SameNode, SameKids}
use Rattle.tv_copy.proofs.Carrying.{all_carried, zip_carried}
use Rattle.tv_copy.proofs.ProofLaws.{proof_shaped, proof_splits_same, proof_narrow, paired_met}

-- ---- pieces and numbers of nodes
pub same_pieces : (a b : Node) → SameNode a b → pieces_of b ≡ pieces_of a
same_pieces (Node' ps m shape kids proofs) (Node' qs n form others offers) same = same.0

same_kid_pieces : {j k : _} (kids : Row_of-Node j) (others : Row_of-Node k) → SameKids kids others → kid_pieces others ≡ kid_pieces kids
same_kid_pieces end_of-Node end_of-Node same = refl
same_kid_pieces end_of-Node (more_of-Node b others) same = absurd same
same_kid_pieces (more_of-Node a kids) end_of-Node same = absurd same
same_kid_pieces (more_of-Node a kids) (more_of-Node b others) same = (λ i. same_pieces a b same.0 i ∷ same_kid_pieces kids others same.1 i)

mutual
  same_size : (a b : Node) → SameNode a b → size b ≡ size a
  same_size (Node' ps m shape kids proofs) (Node' qs n form others offers) same = ap suc (same_sizes kids others same.2)

  same_sizes : {j k : _} (kids : Row_of-Node j) (others : Row_of-Node k) → SameKids kids others → sizes others ≡ sizes kids
  same_sizes end_of-Node end_of-Node same = refl
  same_sizes end_of-Node (more_of-Node b others) same = absurd same
  same_sizes (more_of-Node a kids) end_of-Node same = absurd same
  same_sizes (more_of-Node a kids) (more_of-Node b others) same = (λ i. same_size a b same.0 i + same_sizes kids others same.1 i)

-- ---- shapes
own_shaped : (system : CaseSystem) (s : Statement) (m n : ℕ) (ps qs : List Marked) (kids others : List (List Marked)) (proofs offers : List Proof) → n ≡ m → qs ≡ ps → others ≡ kids → AllZip SameProof proofs offers → OwnShape system s m ps kids proofs → OwnShape system s n qs others offers
own_shaped system s m n ps qs kids others proofs offers ranks pieces below same h =
    subst (λ z. OwnShape system s z qs others offers) (sym ranks)
    (subst (λ z. OwnShape system s m z others offers) (sym pieces)
    (subst (λ z. OwnShape system s m ps z offers) (sym below) (record {
      said = h.said;
      ranked = h.ranked;
      small = h.small;
      each = h.each;
      offered = zip_carried (λ o p. ProofShape o.owed p) SameProof (λ o p q. proof_shaped o.owed p q) (node_owes 0 system s ps kids) proofs offers same h.offered;
    })))

mutual
  pub node_shaped : (system : CaseSystem) (s : Statement) (a b : Node) → SameNode a b → NodeShape system s a → NodeShape system s b
  node_shaped system s (Node' ps m shape kids proofs) (Node' qs n form others offers) same h = (
    own_shaped system s m n ps qs (kid_pieces kids) (kid_pieces others) proofs.items offers.items same.1 same.0 (same_kid_pieces kids others same.2) same.3 h.0,
    kids_shaped system (parts_of s) kids others same.2 h.1,
  )

  kids_shaped : {j k : _} (system : CaseSystem) (ss : Statements) (kids : Row_of-Node j) (others : Row_of-Node k) → SameKids kids others → KidsShape system ss kids → KidsShape system ss others
  kids_shaped system no_statement end_of-Node end_of-Node same h = tt
  kids_shaped system ss end_of-Node (more_of-Node b others) same h = absurd same
  kids_shaped system ss (more_of-Node a kids) end_of-Node same h = absurd same
  kids_shaped system no_statement (more_of-Node a kids) (more_of-Node b others) same h = absurd h
  kids_shaped system (statement s ss) end_of-Node end_of-Node same h = absurd h
  kids_shaped system (statement s ss) (more_of-Node a kids) (more_of-Node b others) same h =
      (node_shaped system s a b same.0 h.0, kids_shaped system ss kids others same.1 h.1)

-- ---- narrow numbers
mutual
  pub node_narrow : (a b : Node) → SameNode a b → NodeNarrow a → NodeNarrow b
  node_narrow (Node' ps m shape kids proofs) (Node' qs n form others offers) same h = (
    record {
      count = subst (λ z. CountNarrow (length z)) (sym same.0) h.0.count;
      ranks = subst CountNarrow (sym same.1) h.0.ranks;
      pieces = subst (All PieceNarrow) (sym same.0) h.0.pieces;
      offered = all_carried ProofNarrow SameProof proof_narrow proofs.items offers.items same.3 h.0.offered;
    },
    kids_narrow kids others same.2 h.1,
  )

  kids_narrow : {j k : _} (kids : Row_of-Node j) (others : Row_of-Node k) → SameKids kids others → KidsNarrow kids → KidsNarrow others
  kids_narrow end_of-Node end_of-Node same h = tt
  kids_narrow end_of-Node (more_of-Node b others) same h = absurd same
  kids_narrow (more_of-Node a kids) end_of-Node same h = absurd same
  kids_narrow (more_of-Node a kids) (more_of-Node b others) same h = (node_narrow a b same.0 h.0, kids_narrow kids others same.1 h.1)

-- ---- depths
mutual
  pub node_within : (depth : ℕ) (a b : Node) → SameNode a b → GoesWithin depth a → GoesWithin depth b
  node_within depth (Node' ps m shape kids proofs) (Node' qs n form others offers) same h = (
    h.0,
    all_carried (λ p. depth + proof_splits p ≤ 384) SameProof (λ p q e. subst (λ z. depth + z ≤ 384) (sym (proof_splits_same p q e))) proofs.items offers.items same.3 h.1,
    kids_within (depth + 1) kids others same.2 h.2,
  )

  kids_within : {j k : _} (depth : ℕ) (kids : Row_of-Node j) (others : Row_of-Node k) → SameKids kids others → KidsGoWithin depth kids → KidsGoWithin depth others
  kids_within depth end_of-Node end_of-Node same h = tt
  kids_within depth end_of-Node (more_of-Node b others) same h = absurd same
  kids_within depth (more_of-Node a kids) end_of-Node same h = absurd same
  kids_within depth (more_of-Node a kids) (more_of-Node b others) same h = (node_within depth a b same.0 h.0, kids_within depth kids others same.1 h.1)

-- ---- obligations
-- where the entries of two lists are met, so are those of two others, if they are met with the first and with the second
join_met : (es fs gs hs : List Entry) → (AllMet es → AllMet gs) → (AllMet fs → AllMet hs) → AllMet (es ++ fs) → AllMet (gs ++ hs)
join_met [] fs gs hs one two h = all_join gs hs (one tt) (two h)
join_met (e ∷ es) fs gs hs one two h = join_met es fs gs hs (λ k. one (h.0, k)) two h.1

own_met : (number : ℕ) (system : CaseSystem) (s : Statement) (ps qs : List Marked) (kids others : List (List Marked)) (proofs offers : List Proof) → qs ≡ ps → others ≡ kids → AllZip SameProof proofs offers → AllMet (paired (node_owes number system s ps kids) proofs) → AllMet (paired (node_owes number system s qs others) offers)
own_met number system s ps qs kids others proofs offers pieces below same h =
    subst (λ z. AllMet (paired (node_owes number system s z others) offers)) (sym pieces)
    (subst (λ z. AllMet (paired (node_owes number system s ps z) offers)) (sym below) (paired_met (node_owes number system s ps kids) proofs offers same h))

mutual
  pub node_met : (number : ℕ) (system : CaseSystem) (s : Statement) (a b : Node) → SameNode a b → AllMet (node_entries number system s a) → AllMet (node_entries number system s b)
  node_met number system s (Node' ps m shape kids proofs) (Node' qs n form others offers) same =
      join_met (children_entries (number + 1) system (parts_of s) kids) (paired (node_owes number system s ps (kid_pieces kids)) proofs.items)
      (children_entries (number + 1) system (parts_of s) others) (paired (node_owes number system s qs (kid_pieces others)) offers.items)
      (kids_met (number + 1) system (parts_of s) kids others same.2)
      (own_met number system s ps qs (kid_pieces kids) (kid_pieces others) proofs.items offers.items same.0 (same_kid_pieces kids others same.2) same.3)

  kids_met : {j k : _} (number : ℕ) (system : CaseSystem) (ss : Statements) (kids : Row_of-Node j) (others : Row_of-Node k) → SameKids kids others → AllMet (children_entries number system ss kids) → AllMet (children_entries number system ss others)
  kids_met number system ss end_of-Node end_of-Node same h = h
  kids_met number system ss end_of-Node (more_of-Node b others) same h = absurd same
  kids_met number system ss (more_of-Node a kids) end_of-Node same h = absurd same
  kids_met number system no_statement (more_of-Node a kids) (more_of-Node b others) same h = h
  kids_met number system (statement s ss) (more_of-Node a kids) (more_of-Node b others) same h =
      subst (λ z. AllMet (node_entries number system s b ++ children_entries (number + z) system ss others)) (sym (same_size a b same.0))
      (join_met (node_entries number system s a) (children_entries (number + size a) system ss kids) (node_entries number system s b) (children_entries (number + size a) system ss others)
      (node_met number system s a b same.0) (kids_met (number + size a) system ss kids others same.1) h)

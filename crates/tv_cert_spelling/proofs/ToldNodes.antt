-- Nodes are told by their lines.
use Rattle.std.proofs.Common.{◌≡◌, ℕ, List, [], ◌∷◌, ◌++◌, length, map, All, refl, sym, ap, ◌∙◌, subst}
use Rattle.std.specs.List.{AllZip, flat_map}
use Rattle.tv_lines.specs.Lines.{PlainLine}
use Rattle.tv_cases.specs.LinearCases.{CaseSystem}
use Rattle.tv_cert.specs.declared.node.Marked.{Marked}
use Rattle.tv_cert.specs.declared.node.Proof.{Proof}
use Rattle.tv_cert.specs.declared.node.Node.{Node, Node', Row_of-Node, end_of-Node, more_of-Node}
use Rattle.tv_cert.specs.Nodes.{pieces_of, kid_pieces, node_owes}
use Rattle.tv_cert.specs.Pieces.{is_go}
use Rattle.tv_cert.specs.Shapes.{PieceShape, may_be_done, OwnShape, NodeShape, KidsShape}
use Rattle.tv_cert.specs.Statements.{Statement, Statements, no_statement, statement, parts_of}
use Rattle.tv_cert_reader.specs.CertificateLines.{piece_lines, proof_lines, node_lines, kid_lines}
use Rattle.tv_cert_reader.specs.Demands.{Outline, outline, outlines, demands}
use Rattle.tv_cert_reader.proofs.CompleteDemands.{draw_free}
use Rattle.tv_cert_reader.proofs.CompleteWanted.{demands_same}
use Rattle.tv_cert_spelling.specs.NodeValues.{PieceValue, piece_value, proof_value, NodeValue, node, NodeValues, none, more, node_value, child_values}
use Rattle.tv_cert_spelling.proofs.Fronts.{same_head, same_tail, behind_first, each_told}
use Rattle.tv_cert_spelling.proofs.ToldRows.{same_numbers, same_two, piece_told}
use Rattle.tv_cert_spelling.proofs.ToldProofs.{ProofLong, proofs_long, proofs_told}

-- ---- values tell outlines

outline_of : PieceValue → Outline
outline_of v = record { place = v.location; going = is_go v.mark; rows = length v.rows }

value_outlines : NodeValue → List Outline
value_outlines (node ps m kids proofs) = map outline_of ps

child_outlines : NodeValues → List (List Outline)
child_outlines none = []
child_outlines (more v vs) = value_outlines v ∷ child_outlines vs

pieces_outlines : (ps : List Marked) → outlines ps ≡ map outline_of (map piece_value ps)
unfolding outline_of
pieces_outlines [] = refl
pieces_outlines (p ∷ ps) = λ i. outline p ∷ pieces_outlines ps i

node_outlines : (n : Node) → outlines (pieces_of n) ≡ value_outlines (node_value n)
unfolding value_outlines
node_outlines (Node' ps m shape kids proofs) = pieces_outlines ps

kid_outlines : {k : _} (kids : Row_of-Node k) → map outlines (kid_pieces kids) ≡ child_outlines (child_values kids)
unfolding child_outlines
kid_outlines end_of-Node = refl
kid_outlines (more_of-Node a kids) = λ i. node_outlines a i ∷ kid_outlines kids i

-- equal values have equal outlines
pub same_outlines : (a b : Node) → node_value a ≡ node_value b → outlines (pieces_of a) ≡ outlines (pieces_of b)
same_outlines a b e = node_outlines a ∙ ap value_outlines e ∙ sym (node_outlines b)

same_pieces : (ps qs : List Marked) → map piece_value ps ≡ map piece_value qs → outlines ps ≡ outlines qs
same_pieces ps qs e = pieces_outlines ps ∙ ap (map outline_of) e ∙ sym (pieces_outlines qs)

same_kids : {j : _} {k : _} (kids : Row_of-Node j) (others : Row_of-Node k) → child_values kids ≡ child_values others → map outlines (kid_pieces kids) ≡ map outlines (kid_pieces others)
same_kids kids others e = kid_outlines kids ∙ ap child_outlines e ∙ sym (kid_outlines others)

-- ---- nodes

module _ (system : CaseSystem) where
  -- the proofs are as long as what is wanted
  own_long : (s : Statement) (m : ℕ) (ps : List Marked) (kids : List (List Marked)) (proofs : List Proof) → OwnShape system s m ps kids proofs → AllZip ProofLong (demands system s m (outlines ps) (map outlines kids)) proofs
  own_long s m ps kids proofs h =
      subst (λ ds. AllZip ProofLong ds proofs) (demands_same 0 system s m ps kids h.each)
      (proofs_long (node_owes 0 system s ps kids) proofs (draw_free 0 system s ps kids) h.offered)

  own_told : (s : Statement) (m n : ℕ) (ps qs : List Marked) (kids others : List (List Marked)) (proofs offered : List Proof) (xs ys : List PlainLine) → OwnShape system s m ps kids proofs → OwnShape system s n qs others offered → m ≡ n → outlines ps ≡ outlines qs → map outlines kids ≡ map outlines others → flat_map proof_lines proofs ++ xs ≡ flat_map proof_lines offered ++ ys → (map proof_value proofs ≡ map proof_value offered) × (xs ≡ ys)
  own_told s m n ps qs kids others proofs offered xs ys h g ranks pieces below e =
      proofs_told (demands system s n (outlines qs) (map outlines others)) proofs offered xs ys
      (subst (λ ds. AllZip ProofLong ds proofs) (λ i. demands system s (ranks i) (pieces i) (below i)) (own_long s m ps kids proofs h))
      (own_long s n qs others offered g) e

  mutual
    pub node_told : (s : Statement) (a b : Node) (xs ys : List PlainLine) → NodeShape system s a → NodeShape system s b → node_lines s a ++ xs ≡ node_lines s b ++ ys → (node_value a ≡ node_value b) × (xs ≡ ys)
    node_told s (Node' ps m shape kids proofs) (Node' qs n other others offered) xs ys h g e =
        let two = same_two (length ps) m (length qs) n (same_numbers _ _ _ _ (same_head _ _ _ _ e)) in
        let mine = flat_map proof_lines proofs.items in
        let theirs = flat_map proof_lines offered.items in
        let kid = kid_lines (parts_of s) kids in
        let twin = kid_lines (parts_of s) others in
        let behind = behind_first (flat_map piece_lines ps) (kid ++ mine) (flat_map piece_lines qs) (twin ++ theirs) xs ys (same_tail _ _ _ _ e) in
        let each = subst (λ r. All (PieceShape system r (may_be_done s)) qs) (sym two.1) g.0.each in
        let pieces = each_told piece_lines piece_value (PieceShape system m (may_be_done s)) (piece_told system m (may_be_done s)) ps qs ((kid ++ mine) ++ xs) ((twin ++ theirs) ++ ys) two.0 h.0.each each behind in
        let below = children_told (parts_of s) kids others (mine ++ xs) (theirs ++ ys) h.1 g.1 (behind_first kid mine twin theirs xs ys pieces.1) in
        let shown = own_told s m n ps qs (kid_pieces kids) (kid_pieces others) proofs.items offered.items xs ys h.0 g.0 two.1 (same_pieces ps qs pieces.0) (same_kids kids others below.0) below.1 in
        (λ i. node (pieces.0 i) (two.1 i) (below.0 i) (shown.0 i), shown.1)

    pub children_told : {j : _} {k : _} (ss : Statements) (kids : Row_of-Node j) (others : Row_of-Node k) (xs ys : List PlainLine) → KidsShape system ss kids → KidsShape system ss others → kid_lines ss kids ++ xs ≡ kid_lines ss others ++ ys → (child_values kids ≡ child_values others) × (xs ≡ ys)
    children_told no_statement end_of-Node end_of-Node xs ys h g e = (refl, e)
    children_told no_statement end_of-Node (more_of-Node b others) xs ys h g e = absurd g
    children_told no_statement (more_of-Node a kids) others xs ys h g e = absurd h
    children_told (statement s ss) end_of-Node others xs ys h g e = absurd h
    children_told (statement s ss) (more_of-Node a kids) end_of-Node xs ys h g e = absurd g
    children_told (statement s ss) (more_of-Node a kids) (more_of-Node b others) xs ys h g e =
        let first = node_told s a b (kid_lines ss kids ++ xs) (kid_lines ss others ++ ys) h.0 g.0 (behind_first (node_lines s a) (kid_lines ss kids) (node_lines s b) (kid_lines ss others) xs ys e) in
        let rest = children_told ss kids others xs ys h.1 g.1 first.1 in
        (λ i. more (first.0 i) (rest.0 i), rest.1)

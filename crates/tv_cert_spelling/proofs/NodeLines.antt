-- The lines of a node by the list of its children.
use Rattle.std.proofs.Common.{◌≡◌, ℕ, zero, suc, ◌<◌, ◌≤◌, List, [], ◌∷◌, ◌++◌, length, drop, get_or, pos, arith, refl, sym, ap, ◌∙◌}
use Rattle.std.specs.List.{flat_map}
use Rattle.std.proofs.lemmas.List.{append-nil, append_assoc}
use Rattle.std.proofs.lemmas.Grind.{flat_map-append}
use Rattle.tv_lines.specs.Lines.{PlainLine, formed}
use Rattle.tv_lines.specs.declared.head.Head.TheVariants as heads
use Rattle.tv_lines.specs.declared.head.NodeKind.{NodeKind}
use Rattle.tv_cert.specs.declared.node.Node.{Node, Node', Row_of-Node, end_of-Node, more_of-Node, items-the_row-Node, out-Node, outs-Node'}
use Rattle.tv_cert.specs.NodeViews.{pieces_list}
use Rattle.tv_cert.specs.Nodes.{size}
use Rattle.tv_cert.proofs.NodeLemmas.{kids_of, sizes_list, proofs_list, out_is}
use Rattle.tv_cert_reader.specs.CertificateLines.{piece_lines, proof_lines}
use Rattle.tv_cert_spelling.specs.Spelling.{spelled, all_spelled, first_kind, lines_with, kid_lines_with}

abbrev pub kids_with : List NodeKind → List Node → List PlainLine
kids_with ks [] = []
kids_with ks (a ∷ kids) = lines_with ks a ++ kids_with (drop (size a) ks) kids

kids_with_is : {k : _} (ks : List NodeKind) (kids : Row_of-Node k) → kid_lines_with ks kids ≡ kids_with ks (items-the_row-Node k kids)
kids_with_is ks end_of-Node = refl
kids_with_is ks (more_of-Node a kids) = ap (λ ls. lines_with ks a ++ ls) (kids_with_is (drop (size a) ks) kids)

pub lines_are : (ks : List NodeKind) (node : Node) → lines_with ks node ≡ formed (heads.Node (first_kind ks)) (pos (length (pieces_list node)) ∷ pos (out-Node node).ranks ∷ []) ∷ (flat_map piece_lines (pieces_list node) ++ (kids_with (drop 1 ks) (kids_of node) ++ flat_map proof_lines (proofs_list node)))
lines_are ks (Node' ps m shape kids proofs) =
    let e = outs-Node' ps m shape kids proofs in
    let a = ap (λ x. x.pieces) e in
    let b = kids_with_is (drop 1 ks) kids ∙ ap (kids_with (drop 1 ks)) (sym (out_is ps m shape kids proofs)) in
    let c = ap (λ x. x.proofs.items) e in
    let d = ap (λ x. x.ranks) e in
    (λ i. formed (heads.Node (first_kind ks)) (pos (length (sym a i)) ∷ pos (sym d i) ∷ []) ∷ (flat_map piece_lines (sym a i) ++ (b i ++ flat_map proof_lines (sym c i))))

-- the children from this one on have as many nodes as it at least
pub size_left : (kids : List Node) (i : ℕ) → i < length kids → (a : Node) → a ≡ get_or kids i a → size a ≤ sizes_list (drop i kids)
size_left [] i below a is = absurd (omega arith)
size_left (b ∷ kids) zero below a is = (let z = ap size is in omega (arith, z))
size_left (b ∷ kids) (suc i) below a is = size_left kids i (omega arith) a is

pub none_left : (kids : List Node) (i : ℕ) → length kids ≤ i → drop i kids ≡ []
none_left [] zero h = refl
none_left [] (suc i) h = refl
none_left (b ∷ kids) zero h = absurd (omega arith)
none_left (b ∷ kids) (suc i) h = none_left kids i (omega arith)

pub sizes_left : (kids : List Node) (i : ℕ) → sizes_list (drop i kids) ≤ sizes_list kids
sizes_left kids zero = omega arith
sizes_left [] (suc i) = omega arith
sizes_left (b ∷ kids) (suc i) = omega (arith, sizes_left kids i)

-- parts that are added one after another
pub parts_added : (out a b c d none : List ℕ) (l : PlainLine) (ps ks qs : List PlainLine) → a ≡ out ++ spelled l → b ≡ a ++ all_spelled ps → c ++ none ≡ b ++ all_spelled ks → none ≡ [] → d ≡ c ++ all_spelled qs → d ≡ out ++ all_spelled (l ∷ (ps ++ (ks ++ qs)))
parts_added out a b c d none l ps ks qs ha hb hc hn hd =
    let x = flat_map-append spelled ks qs in
    let y = flat_map-append spelled ps (ks ++ qs) in
    let c_is : c ≡ b ++ all_spelled ks = sym (append-nil c) ∙ ap (λ zs. c ++ zs) (sym hn) ∙ hc in
    let d_is : d ≡ b ++ all_spelled (ks ++ qs) = hd ∙ ap (λ zs. zs ++ all_spelled qs) c_is ∙ append_assoc b (all_spelled ks) (all_spelled qs) ∙ ap (λ zs. b ++ zs) (sym x) in
    let e_is : d ≡ a ++ all_spelled (ps ++ (ks ++ qs)) = d_is ∙ ap (λ zs. zs ++ all_spelled (ks ++ qs)) hb ∙ append_assoc a (all_spelled ps) (all_spelled (ks ++ qs)) ∙ ap (λ zs. a ++ zs) (sym y) in
    e_is ∙ ap (λ zs. zs ++ all_spelled (ps ++ (ks ++ qs))) ha ∙ append_assoc out (spelled l) (all_spelled (ps ++ (ks ++ qs)))

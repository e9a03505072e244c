-- A node's lines, told the kinds of what it is to show, are those of what it is to show.
use Rattle.std.proofs.Common.{◌≡◌, ℕ, zero, suc, List, [], ◌∷◌, ◌++◌, length, drop, pos, arith, refl, ap, ◌∙◌}
use Rattle.std.specs.List.{flat_map}
use Rattle.std.proofs.lemmas.List.{append_assoc}
use Rattle.tv_lines.specs.Lines.{formed}
use Rattle.tv_lines.specs.declared.head.Head.TheVariants as heads
use Rattle.tv_lines.specs.declared.head.NodeKind.{NodeKind}
use Rattle.tv_cases.specs.LinearCases.{CaseSystem}
use Rattle.tv_cert.specs.declared.node.Node.{Node, Node', Row_of-Node, end_of-Node, more_of-Node}
use Rattle.tv_cert.specs.Nodes.{size}
use Rattle.tv_cert.specs.Shapes.{NodeShape, KidsShape}
use Rattle.tv_cert.specs.Statements.{Statement, Statements, no_statement, statement, parts_of}
use Rattle.tv_shape.specs.Kinds.{kinds_stated, all_kinds}
use Rattle.tv_cert_reader.specs.CertificateLines.{piece_lines, proof_lines, node_lines, kid_lines}
use Rattle.tv_cert_reader.specs.LineGrammar.{kind_of}
use Rattle.tv_cert_reader.proofs.KindLemmas.{kinds_are, size_is_kinds}
use Rattle.tv_cert_spelling.specs.Spelling.{lines_with, kid_lines_with}

drop_all : (n : ℕ) (ks ls : List NodeKind) → n ≡ length ks → drop n (ks ++ ls) ≡ ls
drop_all zero [] ls e = refl
drop_all zero (k ∷ ks) ls e = absurd (omega (arith, e))
drop_all (suc n) [] ls e = absurd (omega (arith, e))
drop_all (suc n) (k ∷ ks) ls e = drop_all n ks ls (omega (arith, e))

module _ (system : CaseSystem) where
  mutual
    pub lines_again : (s : Statement) (node : Node) (ls : List NodeKind) → NodeShape system s node → lines_with (kinds_stated s ++ ls) node ≡ node_lines s node
    lines_again s (Node' ps m shape kids proofs) ls h =
        ap (λ ks. lines_with (ks ++ ls) (Node' ps m shape kids proofs)) (kinds_are s h.0.said)
        ∙ ap (λ ms. formed (heads.Node (kind_of s)) (pos (length ps) ∷ pos m ∷ []) ∷ (flat_map piece_lines ps ++ (ms ++ flat_map proof_lines proofs.items))) (kids_again (parts_of s) kids ls h.1)

    kids_again : {k : _} (ss : Statements) (kids : Row_of-Node k) (ls : List NodeKind) → KidsShape system ss kids → kid_lines_with (all_kinds ss ++ ls) kids ≡ kid_lines ss kids
    kids_again no_statement end_of-Node ls h = refl
    kids_again no_statement (more_of-Node a kids) ls h = absurd h
    kids_again (statement s ss) end_of-Node ls h = absurd h
    kids_again (statement s ss) (more_of-Node a kids) ls h =
        let own = kinds_stated s in
        let later = all_kinds ss ++ ls in
        let apart = append_assoc own (all_kinds ss) ls in
        let gone = drop_all (size a) own later (size_is_kinds system s a h.0) in
        ap (λ ks. lines_with ks a ++ kid_lines_with (drop (size a) ks) kids) apart
        ∙ (λ i. lines_again s a later h.0 i ++ kid_lines_with (gone i) kids)
        ∙ ap (λ ms. node_lines s a ++ ms) (kids_again ss kids ls h.1)

-- The lines of nodes that have the shape are read.
use Rattle.std.proofs.Common.{◌≡◌, ℕ, pos, Bool, List, [], ◌∷◌, ◌++◌, length, map, Ok, refl, sym, ap, ◌∙◌}
use Rattle.std.specs.List.{flat_map}
use Rattle.std.proofs.lemmas.List.{append_assoc}
use Rattle.tv_grammar.specs.Langs.{then, mapped, each}
use Rattle.tv_lines.specs.Lines.{PlainLine, formed}
use Rattle.tv_lines.specs.declared.head.Head.TheVariants as heads
use Rattle.tv_cases.specs.LinearCases.{CaseSystem}
use Rattle.tv_cert.specs.declared.node.Marked.{Marked}
use Rattle.tv_cert.specs.declared.node.Proof.{Proof}
use Rattle.tv_cert.specs.declared.node.Node.{Node, Node', Row_of-Node, end_of-Node, more_of-Node}
use Rattle.tv_cert.specs.Nodes.{pieces_of, kid_pieces, node_owes}
use Rattle.tv_cert.specs.Statements.{Statement, rows, here, elsewhere, ends, never_ends, each_of, one_of, after, along, unsaid, Statements, no_statement, statement, parts_of}
use Rattle.tv_cert.specs.Shapes.{OwnShape, NodeShape, KidsShape}
use Rattle.tv_cert_reader.specs.CertificateLines.{piece_lines, proof_lines, node_lines, kid_lines}
use Rattle.tv_cert_reader.specs.Demands.{Outline, outlines, demands}
use Rattle.tv_cert_reader.specs.LineGrammar.{Grammar, kind_of, Region, region_of, region}
use Rattle.tv_cert_reader.specs.ChoiceGrammar.{demanded}
use Rattle.tv_cert_reader.specs.NodeGrammar.{proofs, over_children, node, nodes}
use Rattle.tv_cert_reader.proofs.CompleteReads.{then_read, mapped_read}
use Rattle.tv_cert_reader.proofs.CompleteParts.{region_read}
use Rattle.tv_cert_reader.proofs.CompleteCovers.{proofs_read}
use Rattle.tv_cert_reader.proofs.CompleteDemands.{draw_free}
use Rattle.tv_cert_reader.proofs.CompleteWanted.{demands_same}

module _ (over : Bool) (system : CaseSystem) where
  -- ---- one node, given its children
  module _ (s : Statement) (m : ℕ) (ps : List Marked) (kids : List (List Marked)) (offered : List Proof) (h : OwnShape system s m ps kids offered) where
    pub node_proofs_read : (rest : List PlainLine) → (proofs over system s (region_of m (outlines ps)) (map outlines kids)).read (flat_map proof_lines offered ++ rest) ≡ Ok (tt, rest)
    node_proofs_read rest =
        mapped_read (λ all. tt) (each (demanded over) (demands system s m (outlines ps) (map outlines kids))) (flat_map proof_lines offered ++ rest) (map (λ p. tt) offered) rest
        (ap (λ ds. (each (demanded over) ds).read (flat_map proof_lines offered ++ rest)) (sym (demands_same 0 system s m ps kids h.each))
        ∙ proofs_read over (node_owes 0 system s ps kids) offered rest (draw_free 0 system s ps kids) h.offered)

    module _ (children : Grammar (List (List Outline))) (lines : List PlainLine) (reads : (r : List PlainLine) → children.read (lines ++ r) ≡ Ok (map outlines kids, r)) where
      behind_region : Region → Grammar (List Outline)
      behind_region g = then children (λ os. mapped (λ _. g.pieces) (proofs over system s g os))

      own_read : (rest : List PlainLine) → (over_children over system s children).read (formed (heads.Node (kind_of s)) (pos (length ps) ∷ pos m ∷ []) ∷ ((flat_map piece_lines ps ++ (lines ++ flat_map proof_lines offered)) ++ rest)) ≡ Ok (outlines ps, rest)
      unfolding behind_region
      own_read rest =
          let g = region_of m (outlines ps) in
          let pieces = flat_map piece_lines ps in
          let shown = flat_map proof_lines offered in
          ap (λ ls. (over_children over system s children).read (formed (heads.Node (kind_of s)) (pos (length ps) ∷ pos m ∷ []) ∷ ls)) (append_assoc pieces (lines ++ shown) rest ∙ ap (λ ls. pieces ++ ls) (append_assoc lines shown rest))
          ∙ then_read (region system s) behind_region (formed (heads.Node (kind_of s)) (pos (length ps) ∷ pos m ∷ []) ∷ (pieces ++ (lines ++ (shown ++ rest)))) g (lines ++ (shown ++ rest)) (region_read system s m ps (lines ++ (shown ++ rest)) h.ranked h.small h.each)
          ∙ then_read children (λ os. mapped (λ _. outlines ps) (proofs over system s g os)) (lines ++ (shown ++ rest)) (map outlines kids) (shown ++ rest) (reads (shown ++ rest))
          ∙ mapped_read (λ _. outlines ps) (proofs over system s g (map outlines kids)) (shown ++ rest) tt rest (node_proofs_read rest)

  -- ---- nodes and their children

  pub node_is : (s : Statement) (ts : List PlainLine) → (node over system s).read ts ≡ (over_children over system s (nodes over system (parts_of s))).read ts
  node_is (rows lists) ts = refl
  node_is (here l) ts = refl
  node_is (elsewhere l) ts = refl
  node_is ends ts = refl
  node_is never_ends ts = refl
  node_is (each_of ss) ts = refl
  node_is (one_of ss) ts = refl
  node_is (after path s) ts = refl
  node_is (along path shape s t) ts = refl
  node_is unsaid ts = refl

  mutual
    pub node_read : (s : Statement) (n : Node) (rest : List PlainLine) → NodeShape system s n → (node over system s).read (node_lines s n ++ rest) ≡ Ok (outlines (pieces_of n), rest)
    node_read s (Node' ps m shape kids offered) rest h =
        node_is s (node_lines s (Node' ps m shape kids offered) ++ rest)
        ∙ own_read s m ps (kid_pieces kids) offered.items h.0 (nodes over system (parts_of s)) (kid_lines (parts_of s) kids) (λ r. nodes_read (parts_of s) kids r h.1) rest

    pub nodes_read : {k : _} (ss : Statements) (kids : Row_of-Node k) (rest : List PlainLine) → KidsShape system ss kids → (nodes over system ss).read (kid_lines ss kids ++ rest) ≡ Ok (map outlines (kid_pieces kids), rest)
    nodes_read no_statement end_of-Node rest h = refl
    nodes_read no_statement (more_of-Node a kids) rest h = absurd h
    nodes_read (statement s ss) end_of-Node rest h = absurd h
    nodes_read (statement s ss) (more_of-Node a kids) rest h =
        ap (nodes over system (statement s ss)).read (append_assoc (node_lines s a) (kid_lines ss kids) rest)
        ∙ then_read (node over system s) (λ os. mapped (λ more. os ∷ more) (nodes over system ss)) (node_lines s a ++ (kid_lines ss kids ++ rest)) (outlines (pieces_of a)) (kid_lines ss kids ++ rest) (node_read s a (kid_lines ss kids ++ rest) h.0)
        ∙ mapped_read (λ more. outlines (pieces_of a) ∷ more) (nodes over system ss) (kid_lines ss kids ++ rest) (map outlines (kid_pieces kids)) rest (nodes_read ss kids rest h.1)

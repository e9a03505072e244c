-- All nodes are right exactly where the certificate has the shape of its formula.
use Rattle.std.proofs.Common.{inl, inr, ◌≡◌, ◌↔◌, ℕ, suc, ◌+◌, ◌≤◌, List, [], ◌∷◌, ◌++◌, length, map, All, arith, refl, sym, ap, ◌∙◌, subst}
use Rattle.std.specs.Prelude.{Result, Ok, Err, MatchResult}
use Rattle.tv_formula.specs.Properties.{Property}
use Rattle.tv_cert.specs.declared.node.Marked.{Marked}
use Rattle.tv_cert.specs.declared.node.Node.{Node, Node', Row_of-Node, end_of-Node, more_of-Node, items-the_row-Node, outs-Node'}
use Rattle.tv_cert.specs.NodeViews.{pieces_list}
use Rattle.tv_cert.specs.Obligations.{About}
use Rattle.tv_cert.specs.Nodes.{kid_pieces, size, pieces_of}
use Rattle.tv_cert.specs.declared.node.Verdict.{Verdict}
use Rattle.tv_cert.specs.declared.node.Verdict.TheVariants.{Proved, Disproved}
use Rattle.tv_cert.specs.AboutSystem.{about_of}
use Rattle.tv_cert.specs.Shapes.{VerdictShape, OwnShape, NodeShape, KidsShape}
use Rattle.tv_cert.specs.Statements.{Statement, Statements, no_statement, statement, stated, parts_of, count}
use Rattle.tv_cert.proofs.NodeLemmas.{out_is, kid_pieces_are}
use Rattle.tv_shape.specs.Parts.{children_of, proofs_of, ranks_at}
use Rattle.tv_shape.specs.Narrow.{PartsNarrow}
use Rattle.tv_shape.specs.Depths.{proof_splits}
use Rattle.tv_shape.specs.Stations.{Station, stations, kid_stations, AreRight}
use Rattle.tv_shape.specs.Fitting.{NodeNarrow, KidsNarrow, GoesWithin, KidsGoWithin, NodesFit, VerdictFits, VerdictShallow, Fits, IsVerdictFault, IsFirstFault}
use Rattle.tv_shape.specs.declared.fault.ShapeFault.{ShapeFault}
use Rattle.tv_shape.specs.declared.fault.ShapeFault.TheVariants as fault
use Rattle.tv_shape.specs.Certificates.{IsRefused}
use Rattle.tv_shape.proofs.StationLemmas.{right_join}

module _ (about : About) where
  -- ---- the parts of a node as its lists

  abbrev many : {k : _} → Row_of-Node k → ℕ
  many {k} kids = length (items-the_row-Node k kids)

  arguments_are : (ps : _) (m : _) (shape : _) (kids : _) (proofs : _) → length (children_of (Node' ps m shape kids proofs)) ≡ many kids
  arguments_are ps m shape kids proofs = ap length (out_is ps m shape kids proofs)

  own_are : (s : _) (ps : _) (m : _) (shape : _) (kids : _) (proofs : _) → OwnShape about.system s (ranks_at (Node' ps m shape kids proofs)) (pieces_list (Node' ps m shape kids proofs)) (map pieces_list (children_of (Node' ps m shape kids proofs))) (proofs_of (Node' ps m shape kids proofs)) ≡ OwnShape about.system s m ps (kid_pieces kids) proofs.items
  own_are s ps m shape kids proofs =
      let e = outs-Node' ps m shape kids proofs in
      let b = ap (map pieces_list) (out_is ps m shape kids proofs) ∙ sym (kid_pieces_are kids) in
      (λ i. OwnShape about.system s (e i).ranks (e i).pieces (b i) (e i).proofs.items)

  proofs_are : (ps : _) (m : _) (shape : _) (kids : _) (proofs : _) → proofs_of (Node' ps m shape kids proofs) ≡ proofs.items
  proofs_are ps m shape kids proofs = ap (λ x. x.proofs.items) (outs-Node' ps m shape kids proofs)

  narrow_are : (ps : _) (m : _) (shape : _) (kids : _) (proofs : _) → PartsNarrow (ranks_at (Node' ps m shape kids proofs)) (pieces_list (Node' ps m shape kids proofs)) (proofs_of (Node' ps m shape kids proofs)) ≡ PartsNarrow m ps proofs.items
  narrow_are ps m shape kids proofs = (let e = outs-Node' ps m shape kids proofs in λ i. PartsNarrow (e i).ranks (e i).pieces (e i).proofs.items)

  right_left : (ts us : List Station) → AreRight about.system (ts ++ us) → AreRight about.system ts
  right_left [] us h = tt
  right_left (t ∷ ts) us h = (h.0, right_left ts us h.1)

  right_rest : (ts us : List Station) → AreRight about.system (ts ++ us) → AreRight about.system us
  right_rest [] us h = h
  right_rest (t ∷ ts) us h = right_rest ts us h.1

  -- ---- all right, and of the shape
  abbrev Whole : ℕ → Statement → Node → Type 0
  Whole depth s node = NodeShape about.system s node × NodeNarrow node × GoesWithin depth node

  abbrev Wholes : {k : _} → ℕ → Statements → Row_of-Node k → Type 0
  Wholes depth ss kids = KidsShape about.system ss kids × KidsNarrow kids × KidsGoWithin depth kids

  mutual
    whole_of : (number depth : ℕ) (s : Statement) (node : Node) → AreRight about.system (stations number depth s node) → Whole depth s node
    whole_of number depth s (Node' ps m shape kids proofs) h =
        let own = h.0.1 in
        let shallow = h.0.0 in
        let below = wholes_of (number + 1) (depth + 1) (parts_of s) kids (sym (arguments_are ps m shape kids proofs) ∙ own.arguments) h.1 in (
          (subst (λ (x : Type 0). x) (own_are s ps m shape kids proofs) own.own, below.0),
          (subst (λ (x : Type 0). x) (narrow_are ps m shape kids proofs) own.narrow, below.1),
          (shallow.node, subst (All (λ p. depth + proof_splits p ≤ 384)) (proofs_are ps m shape kids proofs) shallow.splits, below.2),
        )

    wholes_of : {k : _} (number depth : ℕ) (ss : Statements) (kids : Row_of-Node k) → many kids ≡ count ss → AreRight about.system (kid_stations number depth ss kids) → Wholes depth ss kids
    wholes_of number depth no_statement end_of-Node e h = (tt, tt, tt)
    wholes_of number depth no_statement (more_of-Node a kids) e h = absurd (omega (arith, e))
    wholes_of number depth (statement s ss) end_of-Node e h = absurd (omega (arith, e))
    wholes_of number depth (statement s ss) (more_of-Node a kids) e h =
        let us = kid_stations (number + size a) depth ss kids in
        let here = whole_of number depth s a (right_left (stations number depth s a) us h) in
        let later = wholes_of (number + size a) depth ss kids (omega (arith, e)) (right_rest (stations number depth s a) us h) in
        ((here.0, later.0), (here.1, later.1), (here.2, later.2))

  mutual
    right_of : (number depth : ℕ) (s : Statement) (node : Node) → Whole depth s node → AreRight about.system (stations number depth s node)
    right_of number depth s (Node' ps m shape kids proofs) h =
        let shape_of = h.0 in
        let narrow_of = h.1 in
        let within = h.2 in (
          (
            record { node = within.0; splits = subst (All (λ p. depth + proof_splits p ≤ 384)) (sym (proofs_are ps m shape kids proofs)) within.1 },
            record {
              arguments = arguments_are ps m shape kids proofs ∙ counts (parts_of s) kids shape_of.1;
              own = subst (λ (x : Type 0). x) (sym (own_are s ps m shape kids proofs)) shape_of.0;
              narrow = subst (λ (x : Type 0). x) (sym (narrow_are ps m shape kids proofs)) narrow_of.0;
            },
          ),
          rights_of (number + 1) (depth + 1) (parts_of s) kids (shape_of.1, narrow_of.1, within.2),
        )

    rights_of : {k : _} (number depth : ℕ) (ss : Statements) (kids : Row_of-Node k) → Wholes depth ss kids → AreRight about.system (kid_stations number depth ss kids)
    rights_of number depth no_statement end_of-Node h = tt
    rights_of number depth no_statement (more_of-Node a kids) h = tt
    rights_of number depth (statement s ss) end_of-Node h = tt
    rights_of number depth (statement s ss) (more_of-Node a kids) h =
        right_join about.system (stations number depth s a) (kid_stations (number + size a) depth ss kids)
        (right_of number depth s a (h.0.0, h.1.0, h.2.0)) (rights_of (number + size a) depth ss kids (h.0.1, h.1.1, h.2.1))

    counts : {k : _} (ss : Statements) (kids : Row_of-Node k) → KidsShape about.system ss kids → many kids ≡ count ss
    counts no_statement end_of-Node h = refl
    counts no_statement (more_of-Node a kids) h = absurd h
    counts (statement s ss) end_of-Node h = absurd h
    counts (statement s ss) (more_of-Node a kids) h = ap suc (counts ss kids h.1)

  -- all nodes are right exactly where they fit the formula
  pub nodes_fit : (f : Property) (root : Node) → AreRight about.system (stations 0 1 (stated about.tests f) root) ↔ NodesFit about f root
  nodes_fit f root = (
    λ h. let w = whole_of 0 1 (stated about.tests f) root h in record { shape = w.0; narrow = w.1; depth = w.2 },
    λ h. right_of 0 1 (stated about.tests f) root (h.shape, h.narrow, h.depth),
  )

-- ---- the verdict

-- the shape of a verdict speaks of the cases alone
verdict_moved : (about : About) (ps : List Marked) (verdict : Verdict) → VerdictShape (about_of about.system) ps verdict ≡ VerdictShape about ps verdict
verdict_moved about ps (Proved tree) = refl
verdict_moved about ps (Disproved k values) = refl

pub verdict_fits : (about : About) (ps qs : List Marked) (verdict : Verdict) → qs ≡ ps → VerdictFits (about_of about.system) ps verdict ↔ VerdictFits about qs verdict
verdict_fits about ps qs verdict e = (
  λ h. record { shape = subst (λ rs. VerdictShape about rs verdict) (sym e) (subst (λ (x : Type 0). x) (verdict_moved about ps verdict) h.shape); narrow = h.narrow },
  λ h. record { shape = subst (λ (x : Type 0). x) (sym (verdict_moved about ps verdict)) (subst (λ rs. VerdictShape about rs verdict) e h.shape); narrow = h.narrow },
)

verdict_fails : (about : About) (ps qs : List Marked) (verdict : Verdict) (x : ShapeFault) → qs ≡ ps → IsVerdictFault (about_of about.system) ps verdict x → IsVerdictFault about qs verdict x
verdict_fails about ps qs verdict (fault.Deep n) e h = h
verdict_fails about ps qs verdict (fault.Shape n) e h = (h.0, h.1, λ k. h.2 ((verdict_fits about ps qs verdict e).1 k))
verdict_fails about ps qs verdict fault.Memory e h = absurd h

-- the answer for the verdict is the answer for all, where the nodes are right
pub verdict_ends : {A : Type 0} (about : About) (f : Property) (root : Node) (ps : List Marked) (verdict : Verdict) (result : Result A ShapeFault) → AreRight about.system (stations 0 1 (stated about.tests f) root) → pieces_of root ≡ ps → MatchResult result (λ x. VerdictShallow verdict × VerdictFits (about_of about.system) ps verdict) (IsVerdictFault (about_of about.system) ps verdict) → MatchResult result (λ x. Fits about f root verdict) (IsFirstFault about f root verdict)
verdict_ends about f root ps verdict (Ok x) right e h = record { nodes = (nodes_fit about f root).0 right; shallow = h.0; said = (verdict_fits about ps (pieces_of root) verdict e).0 h.1 }
verdict_ends about f root ps verdict (Err x) right e h = inr (right, verdict_fails about ps (pieces_of root) verdict x e h)

-- a first fault is why there is no certificate
pub refused : (about : About) (f : Property) (root : Node) (verdict : Verdict) (x : ShapeFault) → IsFirstFault about f root verdict x → IsRefused about f root verdict x
refused about f root verdict (fault.Shape n) h = h
refused about f root verdict (fault.Deep n) h = h
refused about f root verdict fault.Memory (inl h) = absurd h.fault
refused about f root verdict fault.Memory (inr h) = absurd h.1

-- Certificates are told by their lines.
use Rattle.std.proofs.Common.{◌≡◌, ℕ, ℤ, pos, List, [], ◌∷◌, ◌++◌, None, refl, sym, ap, ◌∙◌, subst}
use Rattle.tv_lines.specs.Lines.{PlainLine, formed}
use Rattle.tv_lines.specs.declared.head.Head.TheVariants as heads
use Rattle.tv_formula.specs.Properties.{Property}
use Rattle.tv_linear.specs.Known.{given}
use Rattle.tv_linear.specs.declared.cover.CoverTree.{CoverTree}
use Rattle.tv_cert.specs.declared.node.Node.{Node}
use Rattle.tv_cert.specs.declared.node.Verdict.{Verdict}
use Rattle.tv_cert.specs.declared.node.Verdict.TheVariants.{Proved, Disproved}
use Rattle.tv_cert.specs.Nodes.{pieces_of}
use Rattle.tv_cert.specs.Obligations.{About}
use Rattle.tv_cert.specs.Claims.{shown}
use Rattle.tv_cert.specs.declared.claim.Claim.{Claim}
use Rattle.tv_cert.specs.Shapes.{HasShape, CoverShape}
use Rattle.tv_cert.specs.Statements.{Statement, stated}
use Rattle.tv_cert_reader.specs.CertificateLines.{cover_lines, node_lines, certificate_lines, lines_about}
use Rattle.tv_shape.specs.Fitting.{Fits}
use Rattle.tv_shape.specs.Certificates.{IsOf}
use Rattle.tv_shape.specs.declared.certificate.Certificate.{Certificate}
use Rattle.tv_cert_reader.specs.Demands.{outlines, into_counts}
use Rattle.tv_cert_reader.proofs.CompleteDemands.{into_plain}
use Rattle.tv_cert_spelling.specs.NodeValues.{node_value}
use Rattle.tv_cert_spelling.specs.CertificateValues.{proved, disproved, verdict_value, certificate_value}
use Rattle.tv_cert_spelling.proofs.Fronts.{same_head, same_tail}
use Rattle.tv_cert_spelling.proofs.ToldRows.{same_numbers, same_number, other_head}
use Rattle.tv_cert_spelling.proofs.ToldCovers.{cover_told}
use Rattle.tv_cert_spelling.proofs.ToldAmounts.{same_obligations}
use Rattle.tv_cert_spelling.proofs.ToldNodes.{same_outlines, node_told}

module _ (about : About) (f : Property) where
  -- the nodes of a formula
  root_told : (a b : Node) (xs ys : List PlainLine) → HasShape about f a → HasShape about f b → node_lines (stated about.tests f) a ++ xs ≡ node_lines (stated about.tests f) b ++ ys → (node_value a ≡ node_value b) × (xs ≡ ys)
  root_told a b xs ys h g e =
      node_told about.system (stated about.tests f) a b xs ys h g e

  -- the cover of the start has the shape that the outlines of the root want
  start_shape : (a : Node) (tree : CoverTree) → Fits about f a (Proved tree) → CoverShape about.system.variables (into_counts None (outlines (pieces_of a)) about.system.start) 0 tree
  start_shape a tree fits = subst (λ counts. CoverShape about.system.variables counts 0 tree) (into_plain (pieces_of a) about.system.start given) fits.said.shape.0

  start_told : (a b : Node) (t u : CoverTree) (xs ys : List PlainLine) → Fits about f a (Proved t) → Fits about f b (Proved u) → node_value a ≡ node_value b → cover_lines t ++ xs ≡ cover_lines u ++ ys → (verdict_value (Proved t) ≡ verdict_value (Proved u)) × (xs ≡ ys)
  start_told a b t u xs ys h g same e =
      let there = subst (λ os. CoverShape about.system.variables (into_counts None os about.system.start) 0 t) (same_outlines a b same) (start_shape a t h) in
      let covers = cover_told about.system.variables (into_counts None (outlines (pieces_of b)) about.system.start) 0 t u xs ys there (start_shape b u g) e in
      (ap proved covers.0, covers.1)

  values_told : (k j : ℕ) (vs ws : List ℤ) (xs ys : List PlainLine) → formed heads.At (pos k ∷ vs) ∷ xs ≡ formed heads.At (pos j ∷ ws) ∷ ys → disproved k vs ≡ disproved j ws
  values_told k j vs ws xs ys e =
      let numbers = same_numbers heads.At heads.At (pos k ∷ vs) (pos j ∷ ws) (same_head _ _ _ _ e) in
      (λ i. disproved (same_number k j (same_head _ _ _ _ numbers) i) (same_tail _ _ _ _ numbers i))

  said_told : (a b : Node) (v w : Verdict) → Fits about f a v → Fits about f b w → certificate_lines (stated about.tests f) a v ≡ certificate_lines (stated about.tests f) b w → (node_value a ≡ node_value b) × (verdict_value v ≡ verdict_value w)
  said_told a b (Proved t) (Proved u) h g e =
      let root = root_told a b (cover_lines t ++ formed heads.End [] ∷ []) (cover_lines u ++ formed heads.End [] ∷ []) h.nodes.shape g.nodes.shape (same_tail _ _ _ _ (same_tail _ _ _ _ e)) in
      let start = start_told a b t u (formed heads.End [] ∷ []) (formed heads.End [] ∷ []) h g root.0 root.1 in
      (root.0, start.0)
  said_told a b (Proved t) (Disproved j ws) h g e = other_head heads.Proved heads.Disproved _ _ _ _ (λ n. cc) (same_tail _ _ _ _ e)
  said_told a b (Disproved k vs) (Proved u) h g e = other_head heads.Disproved heads.Proved _ _ _ _ (λ n. cc) (same_tail _ _ _ _ e)
  said_told a b (Disproved k vs) (Disproved j ws) h g e =
      let root = root_told a b (formed heads.At (pos k ∷ vs.items) ∷ formed heads.End [] ∷ []) (formed heads.At (pos j ∷ ws.items) ∷ formed heads.End [] ∷ []) h.nodes.shape g.nodes.shape (same_tail _ _ _ _ (same_tail _ _ _ _ e)) in
      (root.0, values_told k j vs.items ws.items (formed heads.End [] ∷ []) (formed heads.End [] ∷ []) root.1)

pub same_certificate : (about : About) (f : Property) (c d : Certificate) → IsOf about f c → IsOf about f d → lines_about about f c ≡ lines_about about f d → certificate_value c ≡ certificate_value d
same_certificate about f c d h g e =
    let same = said_told about f c.root d.root c.verdict d.verdict h.fits g.fits e in
    let kinds = h.named ∙ sym g.named in
    let many = h.counted ∙ same_obligations about f c.root d.root c.verdict d.verdict h.fits.nodes.shape g.fits.nodes.shape same.0 ∙ sym g.counted in
    (λ i. record { verdict = same.1 i; root = same.0 i; kinds = kinds i; obligations = many i })

-- ---- certificates of what is claimed

-- the second line says whether it is of the property or of its negation
same_shown : (claim : Claim) (first second : Statement) (a b : Node) (v w : Verdict) → certificate_lines first a v ≡ certificate_lines second b w → shown claim v ≡ shown claim w
same_shown claim first second a b (Proved t) (Proved u) e = refl
same_shown claim first second a b (Proved t) (Disproved j ws) e = other_head heads.Proved heads.Disproved _ _ _ _ (λ n. cc) (same_tail _ _ _ _ e)
same_shown claim first second a b (Disproved k vs) (Proved u) e = other_head heads.Disproved heads.Proved _ _ _ _ (λ n. cc) (same_tail _ _ _ _ e)
same_shown claim first second a b (Disproved k vs) (Disproved j ws) e = refl

pub same_claimed : (about : About) (claim : Claim) (c d : Certificate) → IsOf about (shown claim c.verdict) c → IsOf about (shown claim d.verdict) d → lines_about about (shown claim c.verdict) c ≡ lines_about about (shown claim d.verdict) d → certificate_value c ≡ certificate_value d
same_claimed about claim c d h g e =
    let f = shown claim d.verdict in
    let same = same_shown claim (stated about.tests (shown claim c.verdict)) (stated about.tests f) c.root d.root c.verdict d.verdict e in
    same_certificate about f c d (subst (λ f. IsOf about f c) same h) g (ap (λ f. lines_about about f c) (sym same) ∙ e)

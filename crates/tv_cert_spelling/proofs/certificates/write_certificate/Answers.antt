use Rattle.std.proofs.Common.{arith, ◌≡◌, ℕ, ◌++◌, ◌∷◌, [], List, length, refl, sym, ap, ◌∙◌}
use Rattle.std.proofs.lemmas.Grind.{common_steps, flat_map-append}
use Rattle.std.proofs.lemmas.List.{append-nil, append_assoc}
use Rattle.tv_lines.specs.Lines.{PlainLine, formed}
use Rattle.tv_lines.specs.declared.head.Head.TheVariants as heads
use Rattle.tv_formula.specs.Properties.{Property}
use Rattle.tv_cert.specs.declared.node.Node.{Node}
use Rattle.tv_cert.specs.declared.node.Verdict.{Verdict}
use Rattle.tv_cert.specs.declared.node.Verdict.TheVariants.{Proved, Disproved}
use Rattle.tv_cert.specs.Nodes.{size}
use Rattle.tv_cert.specs.Obligations.{About}
use Rattle.tv_cert.specs.Statements.{Statement, stated}
use Rattle.tv_shape.specs.Kinds.{kinds_stated}
use Rattle.tv_shape.specs.Certificates.{IsOf}
use Rattle.tv_shape.specs.declared.certificate.Certificate.{Certificate}
use Rattle.tv_cert_reader.specs.CertificateLines.{node_lines, certificate_lines}
use Rattle.tv_cert_spelling.specs.Spelling.{spelled, all_spelled, lines_with, said_lines, at_lines}
use Rattle.tv_cert_reader.proofs.KindLemmas.{size_is_kinds}
use Rattle.tv_cert_spelling.proofs.KindLines.{lines_again}
use Rattle.tv_cert_spelling.proofs.Again.{written_again}
use Rattle.tv_cert_spelling.proofs.certificates.write_certificate.Goals as goal

parted : (s : Statement) (root : Node) (verdict : Verdict) → certificate_lines s root verdict ≡ formed heads.Header [] ∷ (said_lines verdict ++ (node_lines s root ++ (at_lines verdict ++ formed heads.End [] ∷ [])))
parted s root (Proved tree) = refl
parted s root (Disproved k values) = refl

one_more : (a b : List ℕ) (l : PlainLine) → b ≡ a ++ spelled l → b ≡ a ++ all_spelled (l ∷ [])
one_more a b l h = h ∙ ap (λ z. a ++ z) (sym (append-nil (spelled l)))

joined : (a b c : List ℕ) (xs ys : List PlainLine) → b ≡ a ++ all_spelled xs → c ≡ b ++ all_spelled ys → c ≡ a ++ all_spelled (xs ++ ys)
joined a b c xs ys h k = k ∙ ap (λ z. z ++ all_spelled ys) h ∙ append_assoc a (all_spelled xs) (all_spelled ys) ∙ ap (λ z. a ++ z) (sym (flat_map-append spelled xs ys))

whole : (a b c d e : List ℕ) (first last : PlainLine) (said nodes start : List PlainLine) → a ≡ spelled first → b ≡ a ++ all_spelled said → c ≡ b ++ all_spelled nodes → d ≡ c ++ all_spelled start → e ≡ d ++ spelled last → e ≡ all_spelled (first ∷ (said ++ (nodes ++ (start ++ last ∷ []))))
whole a b c d e first last said nodes start ha hb hc hd he =
    let end = joined c d e start (last ∷ []) hd (one_more d e last he) in
    let below = joined b c e nodes (start ++ last ∷ []) hc end in
    joined a b e said (nodes ++ (start ++ last ∷ [])) hb below ∙ ap (λ z. z ++ all_spelled (said ++ (nodes ++ (start ++ last ∷ [])))) ha

-- the kinds that a certificate keeps are those of its formula
lines_kept : (about : About) (f : Property) (c : Certificate) → IsOf about f c → lines_with c.kinds.items c.root ≡ node_lines (stated about.tests f) c.root
lines_kept about f c h =
    ap (λ ks. lines_with ks c.root) (h.named ∙ sym (append-nil (kinds_stated (stated about.tests f))))
    ∙ lines_again about.system (stated about.tests f) c.root [] h.fits.nodes.shape

pub append_node-requires : goal.append_node-requires
append_node-requires c =
    let made = c.requires.made in
    let same = size_is_kinds made.about.system (stated made.about.tests made.formula) c.args.certificate.now.root made.is.fits.nodes.shape in
    let long = ap length made.is.named in
    let kinds = ap length c.kinds.ensures in
    let root = ap size c.root.ensures in
    omega (arith, same, long, kinds, root)

pub returns-clause-spelled : goal.returns-clause-spelled
returns-clause-spelled c about f h =
    let cert = c.args.certificate.now in
    let first : c.append_line.new.out.items ≡ spelled (formed heads.Header []) = grind (arith, common_steps) in
    let said : c.append_said.new.out.items ≡ c.append_line.new.out.items ++ all_spelled (said_lines cert.verdict) = grind (arith, common_steps) in
    let nodes : c.append_node.new.out.items ≡ c.append_said.new.out.items ++ all_spelled (lines_with cert.kinds.items cert.root) = grind (arith, common_steps) in
    let start : c.append_start.new.out.items ≡ c.append_node.new.out.items ++ all_spelled (at_lines cert.verdict) = grind (arith, common_steps) in
    let last : c.append_line-2.new.out.items ≡ c.append_start.new.out.items ++ spelled (formed heads.End []) = grind (arith, common_steps) in
    whole c.append_line.new.out.items c.append_said.new.out.items c.append_node.new.out.items c.append_start.new.out.items c.append_line-2.new.out.items
    (formed heads.Header []) (formed heads.End []) (said_lines cert.verdict) (node_lines (stated about.tests f) cert.root) (at_lines cert.verdict)
    first said (nodes ∙ ap (λ ls. c.append_said.new.out.items ++ all_spelled ls) (lines_kept about f cert h)) start last
    ∙ ap all_spelled (sym (parted (stated about.tests f) cert.root cert.verdict))

pub returns-clause-again : goal.returns-clause-again
returns-clause-again c about f h = written_again about f c.args.certificate.now h c.append_line-2.new.out.items (returns-clause-spelled c about f h)

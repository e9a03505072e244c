-- The lines of certificates that fit are read.
use Rattle.std.proofs.Common.{◌≡◌, ℕ, pos, ℤ, Bool, true, false, List, [], ◌∷◌, ◌++◌, length, Ok, None, refl, ap, ◌∙◌, subst}
use Rattle.std.specs.Global.{Vec}
use Rattle.std.proofs.lemmas.Bool.{eq-eqb}
use Rattle.tv_grammar.specs.Reads.{◌>>=◌}
use Rattle.tv_grammar.specs.Langs.{unit, then, at_end, read_all}
use Rattle.tv_lines.specs.Lines.{PlainLine, formed}
use Rattle.tv_lines.specs.declared.head.Head.TheVariants as heads
use Rattle.tv_formula.specs.Properties.{Property}
use Rattle.tv_linear.specs.Known.{given}
use Rattle.tv_linear.specs.declared.cover.CoverTree.{CoverTree}
use Rattle.tv_cases.specs.LinearCases.{CaseSystem}
use Rattle.tv_cert.specs.declared.node.Node.{Node}
use Rattle.tv_cert.specs.declared.node.Verdict.TheVariants.{Proved, Disproved}
use Rattle.tv_cert.specs.Nodes.{pieces_of}
use Rattle.tv_cert.specs.Obligations.{About}
use Rattle.tv_cert.specs.Shapes.{CoverShape, NodeShape}
use Rattle.tv_cert.specs.Statements.{Statement, stated}
use Rattle.tv_shape.specs.Fitting.{Fits}
use Rattle.tv_cert_reader.specs.CertificateLines.{cover_lines, node_lines, certificate_lines}
use Rattle.tv_cert_reader.specs.declared.kind.LineKind.TheVariants.{Syntax}
use Rattle.tv_cert_reader.specs.Demands.{Outline, outlines, into_counts}
use Rattle.tv_cert_reader.specs.LineGrammar.{Grammar, line, guarded, is_header, is_end, header, last}
use Rattle.tv_cert_reader.specs.CoverGrammar.{both, cover}
use Rattle.tv_cert_reader.specs.NodeGrammar.{node}
use Rattle.tv_cert_reader.specs.CertificateGrammar.{Sides, said_line, at_line, proved, at_values, denied, said, certificate}
use Rattle.tv_cert_reader.proofs.CompleteReads.{then_read}
use Rattle.tv_cert_reader.proofs.CompleteParts.{line_read, sized_read}
use Rattle.tv_cert_reader.proofs.CompleteCovers.{cover_read}
use Rattle.tv_cert_reader.proofs.CompleteDemands.{into_plain}
use Rattle.tv_cert_reader.proofs.CompleteNodes.{node_read}

pub header_read : (rest : List PlainLine) → header.read (formed heads.Header [] ∷ rest) ≡ Ok (tt, rest)
header_read rest = sized_read is_header heads.Header 0 [] rest refl refl

pub last_read : (rest : List PlainLine) → last.read (formed heads.End [] ∷ rest) ≡ Ok (tt, rest)
last_read rest = sized_read is_end heads.End 0 [] rest refl refl

module _ (over : Bool) (system : CaseSystem) where
  -- the nodes of what is proved, and a cover of the start
  pub proved_read : (s : Statement) (root : Node) (tree : CoverTree) (rest : List PlainLine) → NodeShape system s root → ((r : List PlainLine) → (cover over 128 system.variables 0 (into_counts None (outlines (pieces_of root)) system.start)).read (cover_lines tree ++ r) ≡ Ok (tt, r)) → (proved over system s).read (node_lines s root ++ (cover_lines tree ++ (formed heads.End [] ∷ rest))) ≡ Ok (tt, rest)
  proved_read s root tree rest shaped covered =
      let start : List Outline → Grammar (Unit {0}) = λ os. cover over 128 system.variables 0 (into_counts None os system.start) in
      let more = cover_lines tree ++ (formed heads.End [] ∷ rest) in
      then_read (node over system s) (λ os. both (start os) last) (node_lines s root ++ more) (outlines (pieces_of root)) more (node_read over system s root more shaped)
      ∙ then_read (start (outlines (pieces_of root))) (λ _. last) more tt (formed heads.End [] ∷ rest) (covered (formed heads.End [] ∷ rest))
      ∙ last_read rest

  at_line_read : (k : ℕ) (values : List ℤ) (rest : List PlainLine) → length values ≡ system.variables → (line (at_line system.variables)).read (formed heads.At (pos k ∷ values) ∷ rest) ≡ Ok (k, rest)
  at_line_read k values rest many = line_read (at_line system.variables) heads.At (pos k ∷ values) k rest (ap (λ b. guarded b k) (eq-eqb (length values) system.variables many))

  -- the nodes of what is disproved, up to the values
  pub at_values_read : (s : Statement) (root : Node) (k : ℕ) (values : List ℤ) (rest : List PlainLine) → NodeShape system s root → length values ≡ system.variables → (at_values over system s).read (node_lines s root ++ (formed heads.At (pos k ∷ values) ∷ rest)) ≡ Ok ((outlines (pieces_of root), k), rest)
  at_values_read s root k values rest shaped many =
      let more = formed heads.At (pos k ∷ values) ∷ rest in
      then_read (node over system s) (λ os. then (line (at_line system.variables)) (λ k. unit (os, k))) (node_lines s root ++ more) (outlines (pieces_of root)) more (node_read over system s root more shaped)
      ∙ then_read (line (at_line system.variables)) (λ k. unit (outlines (pieces_of root), k)) more k rest (at_line_read k values rest many)

  pub denied_read : (s : Statement) (root : Node) (k : ℕ) (values : List ℤ) (rest : List PlainLine) → NodeShape system s root → length values ≡ system.variables → (denied over system s).read (node_lines s root ++ (formed heads.At (pos k ∷ values) ∷ formed heads.End [] ∷ rest)) ≡ Ok (tt, rest)
  denied_read s root k values rest shaped many =
      let more = formed heads.At (pos k ∷ values) ∷ formed heads.End [] ∷ rest in
      then_read (at_values over system s) (λ x. last) (node_lines s root ++ more) (outlines (pieces_of root), k) (formed heads.End [] ∷ rest) (at_values_read s root k values (formed heads.End [] ∷ rest) shaped many)
      ∙ last_read rest

  -- the first two lines
  module _ (sides : Sides) where
    pub begins_proved : (rest : List PlainLine) → (certificate over system sides).read (formed heads.Header [] ∷ formed heads.Proved [] ∷ rest) ≡ (proved over system sides.proved).read rest
    begins_proved rest =
        then_read header (λ _. then (line said_line) (said over system sides)) (formed heads.Header [] ∷ formed heads.Proved [] ∷ rest) tt (formed heads.Proved [] ∷ rest) (header_read (formed heads.Proved [] ∷ rest))
        ∙ then_read (line said_line) (said over system sides) (formed heads.Proved [] ∷ rest) true rest (line_read said_line heads.Proved [] true rest refl)

    pub begins_denied : (rest : List PlainLine) → (certificate over system sides).read (formed heads.Header [] ∷ formed heads.Disproved [] ∷ rest) ≡ (denied over system sides.denied).read rest
    begins_denied rest =
        then_read header (λ _. then (line said_line) (said over system sides)) (formed heads.Header [] ∷ formed heads.Disproved [] ∷ rest) tt (formed heads.Disproved [] ∷ rest) (header_read (formed heads.Disproved [] ∷ rest))
        ∙ then_read (line said_line) (said over system sides) (formed heads.Disproved [] ∷ rest) false rest (line_read said_line heads.Disproved [] false rest refl)

-- ---- whole certificates

-- what a certificate may be of, told both properties
abbrev pub sides_of : About → Property → Property → Sides
sides_of about fp fd = record { proved = stated about.tests fp; denied = stated about.tests fd }

module _ (about : About) (fp fd : Property) (root : Node) where
  pub certificate_read_proved : (tree : CoverTree) → Fits about fp root (Proved tree) → read_all Syntax (certificate false about.system (sides_of about fp fd)) (certificate_lines (stated about.tests fp) root (Proved tree)) ≡ Ok (tt, [])
  certificate_read_proved tree fits =
      let system = about.system in
      let shape = fits.said.shape in
      let counts = into_plain (pieces_of root) system.start given in
      let behind = cover_lines tree ++ (formed heads.End [] ∷ []) in
      ap (λ o. o >>= λ x. at_end Syntax x.0 x.1)
      (begins_proved false system (sides_of about fp fd) (node_lines (stated about.tests fp) root ++ behind)
      ∙ proved_read false system (stated about.tests fp) root tree [] fits.nodes.shape
      (λ r. cover_read false 128 system.variables 0 (into_counts None (outlines (pieces_of root)) system.start) tree r (subst (λ f. CoverShape system.variables f 0 tree) counts shape.0) shape.1))

  pub certificate_read_disproved : (k : ℕ) (values : Vec ℤ) → Fits about fd root (Disproved k values) → read_all Syntax (certificate false about.system (sides_of about fp fd)) (certificate_lines (stated about.tests fd) root (Disproved k values)) ≡ Ok (tt, [])
  certificate_read_disproved k values fits =
      let system = about.system in
      let behind = formed heads.At (pos k ∷ values.items) ∷ formed heads.End [] ∷ [] in
      ap (λ o. o >>= λ x. at_end Syntax x.0 x.1)
      (begins_denied false system (sides_of about fp fd) (node_lines (stated about.tests fd) root ++ behind)
      ∙ denied_read false system (stated about.tests fd) root k values.items [] fits.nodes.shape fits.said.shape.0)

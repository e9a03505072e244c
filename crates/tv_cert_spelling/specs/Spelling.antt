-- The one spelling of certificates.
use Rattle.std.specs.Prelude.{ℕ, pos, List, [], ◌∷◌, ◌++◌, length, drop}
use Rattle.std.specs.List.{flat_map}
use Rattle.tv_lines.specs.Lines.{PlainLine, formed, formless, wide}
use Rattle.tv_lines.specs.Writing.{spelling}
use Rattle.tv_lines.specs.declared.head.Head.TheVariants as heads
use Rattle.tv_lines.specs.declared.head.NodeKind.{NodeKind}
use Rattle.tv_lines.specs.declared.head.NodeKind.TheVariants as kinds
use Rattle.tv_cert.specs.declared.node.Node.{Node, Node', Row_of-Node, end_of-Node, more_of-Node}
use Rattle.tv_cert.specs.declared.node.Verdict.{Verdict}
use Rattle.tv_cert.specs.declared.node.Verdict.TheVariants.{Proved, Disproved}
use Rattle.tv_cert.specs.Nodes.{size}
use Rattle.tv_cert.specs.Obligations.{About}
use Rattle.tv_formula.specs.Properties.{Property}
use Rattle.tv_shape.specs.declared.certificate.Certificate.{Certificate}
use Rattle.tv_shape.specs.Certificates.{IsOf}
use Rattle.tv_cert_reader.specs.CertificateLines.{piece_lines, proof_lines, cover_lines}

-- a line with the LF that ends it
abbrev pub spelled : PlainLine → List ℕ
spelled (formed head zs) = spelling head zs ++ 10 ∷ []
spelled formless = []
spelled wide = []

abbrev pub all_spelled : List PlainLine → List ℕ
all_spelled ls = flat_map spelled ls

-- the first of the kinds
abbrev pub first_kind : List NodeKind → NodeKind
first_kind [] = kinds.Atom
first_kind (k ∷ ks) = k

abbrev mutual
  -- the lines of a node, told the kinds of the node and of those below it, each before its children
  pub lines_with : List NodeKind → Node → List PlainLine
  lines_with ks (Node' ps m shape kids proofs) =
      formed (heads.Node (first_kind ks)) (pos (length ps) ∷ pos m ∷ [])
      ∷ (flat_map piece_lines ps ++ (kid_lines_with (drop 1 ks) kids ++ flat_map proof_lines proofs.items))

  pub kid_lines_with : {k : _} → List NodeKind → Row_of-Node k → List PlainLine
  kid_lines_with ks end_of-Node = []
  kid_lines_with ks (more_of-Node a kids) = lines_with ks a ++ kid_lines_with (drop (size a) ks) kids

-- the line that says whether it is proved or disproved
abbrev pub said_lines : Verdict → List PlainLine
said_lines (Proved tree) = formed heads.Proved [] ∷ []
said_lines (Disproved k values) = formed heads.Disproved [] ∷ []

-- what is said of the start: its cover, or a piece and the values in it
abbrev pub at_lines : Verdict → List PlainLine
at_lines (Proved tree) = cover_lines tree
at_lines (Disproved k values) = formed heads.At (pos k ∷ values.items) ∷ []

-- the certificate is one of some formula
pub record IsMade (c : Certificate) : Type 0 where
  pub about : About
  pub formula : Property
  pub is : IsOf about formula c

-- The lines of a certificate, from its first to its last.
use Rattle.std.specs.Prelude.{ℤ, pos, List, [], ◌∷◌, ◌++◌, length, map}
use Rattle.std.specs.List.{flat_map}
use Rattle.tv_lines.specs.Lines.{PlainLine, formed}
use Rattle.tv_lines.specs.declared.head.Head.{Head}
use Rattle.tv_lines.specs.declared.head.Head.TheVariants as heads
use Rattle.tv_lines.specs.declared.head.PieceMark.{PieceMark}
use Rattle.tv_lines.specs.declared.head.PieceMark.TheVariants as marks
use Rattle.tv_formula.specs.Properties.{Property}
use Rattle.tv_linear.specs.Linear.{Linear}
use Rattle.tv_linear.specs.declared.cover.CoverTree.{CoverTree}
use Rattle.tv_linear.specs.declared.cover.CoverTree as cover
use Rattle.tv_linear.specs.declared.choice.ChoiceTree.{ChoiceTree}
use Rattle.tv_linear.specs.declared.choice.ChoiceTree as choice
use Rattle.tv_cert.specs.declared.node.Mark.{Mark}
use Rattle.tv_cert.specs.declared.node.Mark.TheVariants.{Done, Go}
use Rattle.tv_cert.specs.declared.node.Marked.{Marked}
use Rattle.tv_cert.specs.declared.node.Proof.{Proof}
use Rattle.tv_cert.specs.declared.node.Proof.TheVariants.{Covered, Chosen}
use Rattle.tv_cert.specs.declared.node.Node.{Node, Node', Row_of-Node, end_of-Node, more_of-Node}
use Rattle.tv_cert.specs.declared.node.Verdict.{Verdict}
use Rattle.tv_cert.specs.declared.node.Verdict.TheVariants.{Proved, Disproved}
use Rattle.tv_cert.specs.Pieces.{place_of, rows_of, ranks_of}
use Rattle.tv_cert.specs.Obligations.{About}
use Rattle.tv_cert.specs.Statements.{Statement, Statements, no_statement, statement, parts_of, stated}
use Rattle.tv_shape.specs.declared.certificate.Certificate.{Certificate}
use Rattle.tv_cert_reader.specs.LineGrammar.{kind_of}

-- a row or a term: its coefficients and then its constant
abbrev pub row_line : Head → Linear → PlainLine
row_line head r = formed head (r.coefficients ++ r.constant ∷ [])

-- a line for each of the rows
abbrev pub row_lines : Head → List Linear → List PlainLine
row_lines head rows = map (row_line head) rows

-- a line of multipliers for each row to be shown
abbrev pub by_lines : List (List ℤ) → List PlainLine
by_lines lists = map (formed heads.By) lists

abbrev pub mark_named : Mark → PieceMark
mark_named Done = marks.Done
mark_named Go = marks.Go

-- a piece: its location, its mark and the number of its rows, then its rows and its ranks
abbrev pub piece_lines : Marked → List PlainLine
piece_lines p =
    formed (heads.Piece (mark_named p.mark)) (pos (place_of p) ∷ pos (length (rows_of p)) ∷ [])
    ∷ (row_lines heads.Row (rows_of p) ++ row_lines heads.Rank (ranks_of p))

-- a cover; of a split the side where its row holds comes first
abbrev pub cover_lines : CoverTree → List PlainLine
cover_lines (cover.Split' r p a q b) = row_line heads.Split r ∷ (cover_lines a ++ cover_lines b)
cover_lines (cover.Empty ms) = formed heads.Empty ms.items ∷ []
cover_lines (cover.Into k j lists) = formed heads.Into (pos k ∷ pos j ∷ []) ∷ by_lines (map (λ l. l.items) lists.items)

-- a choice
abbrev pub choice_lines : ChoiceTree → List PlainLine
choice_lines (choice.Split' r p a q b) = row_line heads.Split r ∷ (choice_lines a ++ choice_lines b)
choice_lines (choice.Empty ms) = formed heads.Empty ms.items ∷ []
choice_lines (choice.NoStep covers) = formed heads.NoStep [] ∷ flat_map cover_lines covers.items
choice_lines (choice.Take c k j draws lists) =
    formed heads.Take (pos c ∷ pos k ∷ pos j ∷ []) ∷ (row_lines heads.Draw draws.items ++ by_lines (map (λ l. l.items) lists.items))

abbrev pub proof_lines : Proof → List PlainLine
proof_lines (Covered tree) = cover_lines tree
proof_lines (Chosen tree) = choice_lines tree

abbrev mutual
  -- a node, told what it is to show: its kind, the numbers of its pieces and its ranks, then its pieces, its children and its proofs
  pub node_lines : Statement → Node → List PlainLine
  node_lines s (Node' ps m shape kids proofs) =
      formed (heads.Node (kind_of s)) (pos (length ps) ∷ pos m ∷ [])
      ∷ (flat_map piece_lines ps ++ (kid_lines (parts_of s) kids ++ flat_map proof_lines proofs.items))

  -- the children, told what they are to show
  pub kid_lines : {k : _} → Statements → Row_of-Node k → List PlainLine
  kid_lines ss end_of-Node = []
  kid_lines no_statement (more_of-Node a kids) = []
  kid_lines (statement s ss) (more_of-Node a kids) = node_lines s a ++ kid_lines ss kids

-- a certificate of a statement: version 1, what is said of it, the nodes, and the proof or the values for the start
abbrev pub certificate_lines : Statement → Node → Verdict → List PlainLine
certificate_lines s root (Proved tree) =
    formed heads.Header [] ∷ formed heads.Proved [] ∷ (node_lines s root ++ (cover_lines tree ++ formed heads.End [] ∷ []))
certificate_lines s root (Disproved k values) =
    formed heads.Header [] ∷ formed heads.Disproved [] ∷ (node_lines s root ++ formed heads.At (pos k ∷ values.items) ∷ formed heads.End [] ∷ [])

-- the lines of a certificate of the formula
abbrev pub lines_about : About → Property → Certificate → List PlainLine
lines_about about f c = certificate_lines (stated about.tests f) c.root c.verdict

-- What is read of the pieces of a node.
use Rattle.std.specs.Prelude.{◌≡◌, ℕ, ◌<◌, ◌^◌, pos, Bool, false, List, [], ◌∷◌, length, All, Result}
use Rattle.std.specs.List.{flat_map}
use Rattle.std.specs.Global.{Vec}
use Rattle.tv_grammar.specs.Langs.{then, mapped, times}
use Rattle.tv_lines.specs.Lines.{PlainLine, formed}
use Rattle.tv_lines.specs.declared.head.Head.TheVariants as heads
use Rattle.tv_lines.specs.declared.head.NodeKind.{NodeKind}
use Rattle.tv_cases.specs.LinearCases.{CaseSystem}
use Rattle.tv_cert.specs.declared.node.Marked.{Marked}
use Rattle.tv_cert.specs.Shapes.{PieceShape}
use Rattle.tv_cert_reader.specs.CertificateLines.{piece_lines}
use Rattle.tv_cert_reader.specs.LineGrammar.{Grammar, line, node_line, piece, Region, region_of}
use Rattle.tv_cert_reader.specs.declared.cursor.Cursor.{Cursor}
use Rattle.tv_cert_reader.specs.declared.failure.Failure.{Failure}
use Rattle.tv_cert_reader.specs.Reading.{Reads}
use Rattle.tv_cert_reader.specs.Parts.{AreMany}

-- a piece of a node with m ranks is read, which may be done where `done` is true
abbrev pub ReadsPiece : CaseSystem → ℕ → Bool → Cursor → Cursor → Result Marked Failure → Type 0
ReadsPiece system m done old new result = Reads (λ p. p) (PieceShape system m done) piece_lines (piece system m done) old new result

abbrev pub pieces_in : Vec Marked → List Marked
pieces_in v = v.items

-- `count` pieces are read
abbrev pub ReadsPieces : CaseSystem → ℕ → Bool → ℕ → Cursor → Cursor → Result (Vec Marked) Failure → Type 0
ReadsPieces system m done count old new result = Reads pieces_in (AreMany (PieceShape system m done) count) (flat_map piece_lines) (times count (piece system m done)) old new result

-- the pieces of a node, and how many ranks it has
abbrev pub Pieces : Type 0
Pieces = List Marked × ℕ

pub record IsRegion (system : CaseSystem) (ranked done : Bool) (x : Pieces) : Type 0 where
  pub ranks : ranked ≡ false → x.1 ≡ 0
  pub small : x.1 < 2 ^ 32
  pub each : All (PieceShape system x.1 done) x.0

-- the head of a node of this kind, and its pieces
abbrev pub region_lines : NodeKind → Pieces → List PlainLine
region_lines kind x = formed (heads.Node kind) (pos (length x.0) ∷ pos x.1 ∷ []) ∷ flat_map piece_lines x.0

-- the region of a node of this kind, which may have ranks and whose pieces may be done where these are true
abbrev pub region_with : CaseSystem → NodeKind → Bool → Bool → Grammar Region
region_with system kind ranked done = then (line (node_line kind ranked)) (λ x. mapped (region_of x.ranks) (times x.pieces (piece system x.ranks done)))

abbrev pub ReadsRegion : CaseSystem → NodeKind → Bool → Bool → Cursor → Cursor → Result Pieces Failure → Type 0
ReadsRegion system kind ranked done old new result = Reads (λ x. x) (IsRegion system ranked done) (region_lines kind) (region_with system kind ranked done) old new result

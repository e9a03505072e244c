-- What is read of a whole certificate.
use Rattle.std.specs.Prelude.{◌≡◌, pos, Bool, true, false, List, [], ◌∷◌, ◌++◌, length, slice_get, Result, Ok, Err, IsSome}
use Rattle.tv_lines.specs.Lines.{PlainLine, formed}
use Rattle.tv_lines.specs.declared.head.Head.TheVariants as heads
use Rattle.tv_linear.specs.Known.{given}
use Rattle.tv_cases.specs.LinearCases.{CaseSystem}
use Rattle.tv_cert.specs.declared.node.Node.{Node}
use Rattle.tv_cert.specs.declared.node.Verdict.{Verdict}
use Rattle.tv_cert.specs.declared.node.Verdict.TheVariants.{Proved, Disproved}
use Rattle.tv_cert.specs.NodeViews.{pieces_list}
use Rattle.tv_cert.specs.Pieces.{pieces_at}
use Rattle.tv_cert.specs.Shapes.{owed_count, NodeShape}
use Rattle.tv_cert.specs.Statements.{Statement}
use Rattle.tv_cert.specs.Targets.{owed_into, no_fall}
use Rattle.tv_cert_reader.specs.CertificateLines.{cover_lines, node_lines}
use Rattle.tv_cert_reader.specs.LineGrammar.{line}
use Rattle.tv_cert_reader.specs.CertificateGrammar.{Sides, said_line, IsFirstFault}
use Rattle.tv_cert_reader.specs.declared.cursor.Cursor.{Cursor}
use Rattle.tv_cert_reader.specs.declared.failure.Failure.{Failure}
use Rattle.tv_cert_reader.specs.declared.failure.Failure.TheVariants.{Fault, Memory}
use Rattle.tv_cert_reader.specs.Covers.{IsCoverWithin}
use Rattle.tv_cert_reader.specs.Reading.{Reads}

-- the line that says whether it is proved
abbrev pub said_head : Bool → PlainLine
said_head true = formed heads.Proved []
said_head false = formed heads.Disproved []

abbrev pub Anything : Bool → Type 0
Anything b = Unit {0}

abbrev pub ReadsProved : Cursor → Cursor → Result Bool Failure → Type 0
ReadsProved old new result = Reads (λ b. b) Anything (λ b. said_head b ∷ []) (line said_line) old new result

-- what is said over the pieces of a root fits
abbrev pub IsVerdictOver : CaseSystem → Node → Verdict → Type 0
IsVerdictOver system root (Proved tree) = IsCoverWithin system.variables (owed_count (owed_into (pieces_list root) system.start given no_fall)) 0 128 tree
IsVerdictOver system root (Disproved k values) = (length values.items ≡ system.variables) × IsSome (slice_get (pieces_at (pieces_list root) system.start) k)

-- the lines after the root
abbrev pub behind_root : Verdict → List PlainLine
behind_root (Proved tree) = cover_lines tree ++ formed heads.End [] ∷ []
behind_root (Disproved k values) = formed heads.At (pos k ∷ values.items) ∷ formed heads.End [] ∷ []

abbrev pub says : Verdict → Bool
says (Proved tree) = true
says (Disproved k values) = false

-- the root shows this, and these are all lines after the one that says whether it is proved
pub record IsBehindSaid (system : CaseSystem) (s : Statement) (proved : Bool) (ls : List PlainLine) (root : Node) (verdict : Verdict) : Type 0 where
  pub root_is : NodeShape system s root
  pub said : says verdict ≡ proved
  pub verdict_is : IsVerdictOver system root verdict
  pub lines : ls ≡ node_lines s root ++ behind_root verdict

-- the lines of the text up to what is said
abbrev pub begun : Bool → List PlainLine → List PlainLine
begun proved ls = formed heads.Header [] ∷ said_head proved ∷ ls

-- what a side shows
abbrev pub side : Sides → Bool → Statement
side sides true = sides.proved
side sides false = sides.denied

-- the rest of a text is read after the line that says whether it is proved
abbrev pub ReadsRest : CaseSystem → Statement → Bool → Cursor → Result (Node × Verdict) Failure → Type 0
ReadsRest system s proved old (Ok x) = IsBehindSaid system s proved old.lines x.0 x.1
ReadsRest system s proved old (Err (Fault k number)) = (sides : Sides) → side sides proved ≡ s → old.taken ≡ 2 → IsFirstFault system sides (begun proved old.lines) k number
ReadsRest system s proved old (Err Memory) = Unit {0}

-- all lines are read as those of a root and what is said over it
abbrev pub ReadsAll : CaseSystem → Sides → Cursor → Result (Node × Verdict) Failure → Type 0
ReadsAll system sides old (Ok x) = (rest : List PlainLine) × (old.lines ≡ begun (says x.1) rest) × IsBehindSaid system (side sides (says x.1)) (says x.1) rest x.0 x.1
ReadsAll system sides old (Err (Fault k number)) = old.taken ≡ 0 → IsFirstFault system sides old.lines k number
ReadsAll system sides old (Err Memory) = Unit {0}

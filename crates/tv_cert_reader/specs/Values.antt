-- What is read after the root of a certificate.
use Rattle.std.specs.Prelude.{◌≡◌, ℕ, ◌+◌, ℤ, pos, List, [], ◌∷◌, length, All, Option, Result, Ok, Err}
use Rattle.std.specs.Global.{Vec}
use Rattle.tv_lines.specs.Lines.{PlainLine, formed}
use Rattle.tv_lines.specs.Numbers.{IsNarrow}
use Rattle.tv_lines.specs.declared.head.Head.TheVariants as heads
use Rattle.tv_linear.specs.Known.{given}
use Rattle.tv_linear.specs.declared.cover.CoverTree.{CoverTree}
use Rattle.tv_cases.specs.LinearCases.{CaseSystem}
use Rattle.tv_cert.specs.declared.node.Marked.{Marked}
use Rattle.tv_cert.specs.Shapes.{owed_count}
use Rattle.tv_cert.specs.Targets.{owed_into, no_fall}
use Rattle.tv_cert_reader.specs.declared.kind.LineKind.TheVariants.{Syntax}
use Rattle.tv_cert_reader.specs.LineGrammar.{line}
use Rattle.tv_cert_reader.specs.CertificateGrammar.{at_line}
use Rattle.tv_cert_reader.specs.declared.cursor.Cursor.{Cursor}
use Rattle.tv_cert_reader.specs.declared.failure.Failure.{Failure}
use Rattle.tv_cert_reader.specs.declared.failure.Failure.TheVariants.{Fault, Memory}
use Rattle.tv_cert_reader.specs.Covers.{ReadsTree}
use Rattle.tv_cert_reader.specs.Reading.{Reads}

-- how many rows the start owes on entering a piece
abbrev pub start_counts : CaseSystem → List Marked → ℕ → ℕ → Option ℕ
start_counts system ps = owed_count (owed_into ps system.start given no_fall)

-- a cover of the start by these pieces is read
abbrev pub ReadsStart : CaseSystem → List Marked → Cursor → Cursor → Result CoverTree Failure → Type 0
ReadsStart system ps old new result = ReadsTree system.variables (start_counts system ps) 0 128 old new result

-- a place, and `n` narrow values
abbrev pub Values : Type 0
Values = ℕ × List ℤ

pub record AreValues (n : ℕ) (x : Values) : Type 0 where
  pub many : length x.1 ≡ n
  pub narrow : All IsNarrow x.1

abbrev pub values_in : ℕ × Vec ℤ → Values
values_in x = (x.0, x.1.items)

abbrev pub values_line : Values → List PlainLine
values_line x = formed heads.At (pos x.0 ∷ x.1) ∷ []

abbrev pub ReadsValues : ℕ → Cursor → Cursor → Result (ℕ × Vec ℤ) Failure → Type 0
ReadsValues n old new result = Reads values_in (AreValues n) values_line (line (at_line n)) old new result

-- something is left
pub record IsLeft (c : Cursor) (number : ℕ) : Type 0 where
  pub first : PlainLine
  pub behind : List PlainLine
  pub lines : c.lines ≡ first ∷ behind
  pub counted : number ≡ c.taken + 1

-- nothing is left, or a line, which then is at fault
abbrev pub ReadsEnd : Cursor → Result (Unit {0}) Failure → Type 0
ReadsEnd old (Ok done) = old.lines ≡ []
ReadsEnd old (Err (Fault k number)) = (k ≡ Syntax) × IsLeft old number
ReadsEnd old (Err Memory) = Unit {0}

-- What a checker has done that went over a whole certificate.
use Rattle.std.specs.Prelude.{◌≡◌, ◌<◌, ◌^◌, ℤ, Bool, true, false, List, [], ◌∷◌, ◌++◌, length, Option, None, Some, Result, Ok, Err}
use Rattle.std.specs.Global.{Vec}
use Rattle.tv_lines.specs.Lines.{PlainLine}
use Rattle.tv_cases.specs.LinearCases.{CaseSystem}
use Rattle.tv_cert.specs.declared.node.Node.{Node}
use Rattle.tv_cert.specs.declared.node.Verdict.{Verdict}
use Rattle.tv_cert.specs.declared.node.Verdict.TheVariants.{Proved, Disproved}
use Rattle.tv_cert.specs.Nodes.{pieces_of, root_entry, size, node_entries}
use Rattle.tv_cert.specs.Obligations.{Entry}
use Rattle.tv_cert.specs.AboutSystem.{about_of}
use Rattle.tv_cert.specs.Statements.{Statement}
use Rattle.tv_cert_reader.specs.CertificateGrammar.{Sides}
use Rattle.tv_cert_reader.specs.declared.failure.Failure.{Failure}
use Rattle.tv_cert_reader.specs.declared.walk.Walk.{Walk}
use Rattle.tv_cert_reader.specs.Wholes.{IsBehindSaid, ReadsRest, ReadsAll, begun, side}
use Rattle.tv_check_text.specs.declared.checker.Checker.{Checker}
use Rattle.tv_check_text.specs.Settling.{Settles}

-- nothing is checked yet
pub record IsFresh (walk : Walk Checker) : Type 0 where
  pub nodes : walk.nodes ≡ 0
  pub seen : walk.taker.seen ≡ 0
  pub failing : walk.taker.failing ≡ None

-- the obligations below a root that is to show this, and its own, with their proofs
abbrev pub all_entries : CaseSystem → Statement → Node → Verdict → List Entry
all_entries system s root verdict = node_entries 0 system s root ++ root_entry (about_of system) (pieces_of root) verdict ∷ []

-- the values at which a property is disproved
abbrev pub values_of : Verdict → List ℤ
values_of (Proved tree) = []
values_of (Disproved k values) = values.items

-- these are all lines after the one that says whether it is proved, and what is owed is checked
pub record IsCheckedRest (system : CaseSystem) (s : Statement) (proved : Bool) (values : List ℤ) (ls : List PlainLine) (new : Checker) : Type 0 where
  pub root : Node
  pub verdict : Verdict
  pub behind : IsBehindSaid system s proved ls root verdict
  pub at_values : values ≡ values_of verdict
  pub seen : new.seen ≡ length (all_entries system s root verdict)
  pub few_nodes : size root < 2 ^ 32
  pub few_entries : length (all_entries system s root verdict) < 2 ^ 64
  pub settles : Settles 0 None (all_entries system s root verdict) new.failing

abbrev pub ChecksProved : CaseSystem → Statement → Walk Checker → Checker → Result (Unit {0}) Failure → Type 0
ChecksProved system s old new (Ok done) = IsCheckedRest system s true [] old.cursor.lines new
ChecksProved system s old new (Err f) = ReadsRest system s true old.cursor (Err f)

abbrev pub ChecksDenied : CaseSystem → Statement → Walk Checker → Checker → Result (Vec ℤ) Failure → Type 0
ChecksDenied system s old new (Ok values) = IsCheckedRest system s false values.items old.cursor.lines new
ChecksDenied system s old new (Err f) = ReadsRest system s false old.cursor (Err f)

-- what is said by the values at which it is disproved, if it is
abbrev pub is_proved : Option (Vec ℤ) → Bool
is_proved None = true
is_proved (Some values) = false

abbrev pub values_in : Option (Vec ℤ) → List ℤ
values_in None = []
values_in (Some values) = values.items

-- all lines are those of a certificate, and what is owed is checked
abbrev pub ChecksWhole : CaseSystem → Sides → Walk Checker → Checker → Result (Option (Vec ℤ)) Failure → Type 0
ChecksWhole system sides old new (Ok x) = (rest : List PlainLine) × (old.cursor.lines ≡ begun (is_proved x) rest) × IsCheckedRest system (side sides (is_proved x)) (is_proved x) (values_in x) rest new
ChecksWhole system sides old new (Err f) = ReadsAll system sides old.cursor (Err f)

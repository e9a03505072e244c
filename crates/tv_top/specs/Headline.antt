-- What an answer says of the words and of the bytes that were read.
use Rattle.std.specs.Prelude.{◌≡◌, ◌⊎◌, ℕ, ◌<◌, ◌≤◌, List, [], length, take, Bool, true, false, Ok, Err, None, Some, if◌then◌else◌}
use Rattle.std.specs.Io.KnownBytes.{IsAtEnd}
use Rattle.tv_text.specs.Stream.{Seen, Gave, GaveSome, Took}
use Rattle.tv_text.specs.Headings.{IsSplit}
use Rattle.tv_program.specs.Systems.{System}
use Rattle.tv_formula.specs.Properties.{Property as Formula}
use Rattle.tv_formula_reader.specs.declared.fault.FormulaFault.{FormulaFault}
use Rattle.tv_cases.specs.LinearCases.{CaseSystem}
use Rattle.tv_cases.specs.ProgramCases.{LinearFault, wide, too_many, linear_cases}
use Rattle.tv_cases.specs.Answers.{IsOfProgram}
use Rattle.tv_top.specs.declared.answer.Answer.{Answer}
use Rattle.tv_top.specs.declared.answer.Answer.TheVariants.{Proved, Disproved, Obligation, CertificateLine, Words, TooLong, Text, Property, Condition, WideEdge, TooManyInEdge, Unknown, ReadFault, Memory}
use Rattle.tv_top.specs.declared.status.Status.{Status}
use Rattle.tv_top.specs.declared.status.Status.TheVariants as statuses
use Rattle.tv_top.specs.Answers.{lines_of, status_of}
use Rattle.tv_top.specs.CertificateChecks.{AnswersCheck}
use Rattle.tv_interleave.specs.declared.texts.TextFault.{TextFault}
use Rattle.tv_interleave.specs.Texts.{IsProgramOf, IsFirstFault}
use Rattle.tv_top.specs.Properties.{IsNamed, IsUnnamed}
use Rattle.tv_top.specs.Generated.{generated_text}
use Rattle.tv_top.specs.Tasks.{Task, has_certificates, made_loops, task_of}
use Rattle.tv_top.specs.Finding.{Offers, Finds}
use Rattle.tv_top.specs.Visiting.{FindsFinitely}

-- how many bytes are read at most: of a program and a certificate that is to be checked, or of a program alone
abbrev pub most_bytes : Bool → ℕ
most_bytes checks = if checks then 16777216 else 1048576

-- the bytes are the text of a program and, where one is to be checked, that of a certificate after it
abbrev pub AreTexts : Bool → List ℕ → List ℕ → List ℕ → Type 0
AreTexts true bytes program_text certificate_text = IsSplit bytes program_text certificate_text
AreTexts false bytes program_text certificate_text = (program_text ≡ bytes) × (certificate_text ≡ [])

-- the bytes are the texts of a program, or of processes whose product it is, and of a certificate
pub record Given (task : Task) (bytes : List ℕ) : Type 0 where
  pub program_text : List ℕ
  pub certificate_text : List ℕ
  pub texts : AreTexts task.checks bytes program_text certificate_text
  pub program : System
  pub is_program : IsProgramOf program_text program

-- the words name a formula over the program: a property of it, or one of its states that may hold only finitely often
pub record Asked (task : Task) (bytes : List ℕ) : Type 0 where
  pub given : Given task bytes
  pub property : Formula
  pub named : IsNamed given.program task.query property

-- what the answer says of a property of a program over its cases: of the certificate's text that is to be checked, or what was found
abbrev pub Tells : Bool → Offers → Task → System → Formula → CaseSystem → List ℕ → Answer → Type 0
Tells true offers task p f cases text answer = AnswersCheck p f cases text answer
Tells false offers task p f cases text answer = Finds offers task p f cases answer

-- The answer says this where the words name a property of the program. The cases are the program's.
pub record Settled (offers : Offers) (task : Task) (bytes : List ℕ) (answer : Answer) : Type 0 where
  pub asked : Asked task bytes
  pub of_formula : has_certificates task.query ≡ true
  pub cases : CaseSystem
  pub are_cases : linear_cases asked.given.program ≡ Ok cases.cases
  pub of_program : IsOfProgram asked.given.program cases
  pub says : Tells task.checks offers task asked.given.program asked.property cases asked.given.certificate_text answer

-- the answer says this where it is asked whether a property of states holds only finitely often
pub record Visited (offers : Offers) (task : Task) (bytes : List ℕ) (answer : Answer) : Type 0 where
  pub asked : Asked task bytes
  pub of_visits : has_certificates task.query ≡ false
  pub says : FindsFinitely offers task asked.given.program asked.property answer

-- the text of the program, which is none, has this as its first fault
pub record IsRefusedText (task : Task) (bytes : List ℕ) (fault : TextFault) : Type 0 where
  pub program_text : List ℕ
  pub certificate_text : List ℕ
  pub texts : AreTexts task.checks bytes program_text certificate_text
  pub first : IsFirstFault program_text fault

-- the words name no property of the program: this is why
pub record HasNoProperty (task : Task) (bytes : List ℕ) (fault : FormulaFault) : Type 0 where
  pub given : Given task bytes
  pub unnamed : IsUnnamed given.program task.query fault

-- the words name a property of the program, which has no linear cases: this is why
pub record HasNoCases (task : Task) (bytes : List ℕ) (fault : LinearFault) : Type 0 where
  pub asked : Asked task bytes
  pub fault_is : linear_cases asked.given.program ≡ Err fault

-- What the answer says where the words ask this, and these are all bytes that came out of the source.
abbrev pub Means : Offers → Task → List ℕ → Answer → Type 0
Means offers task bytes (Proved certificate) = Settled offers task bytes (Proved certificate) ⊎ Visited offers task bytes (Proved certificate)
Means offers task bytes (Disproved at certificate) = Settled offers task bytes (Disproved at certificate)
Means offers task bytes (Obligation failing) = Settled offers task bytes (Obligation failing)
Means offers task bytes (CertificateLine line) = Settled offers task bytes (CertificateLine line)
Means offers task bytes (Unknown cause) = Settled offers task bytes (Unknown cause) ⊎ Visited offers task bytes (Unknown cause)
Means offers task bytes (Text fault) = IsRefusedText task bytes fault
Means offers task bytes (Property fault) = HasNoProperty task bytes fault
Means offers task bytes (Condition fault) = Visited offers task bytes (Condition fault)
Means offers task bytes (WideEdge edge) = HasNoCases task bytes (wide edge)
Means offers task bytes (TooManyInEdge edge) = HasNoCases task bytes (too_many edge)
Means offers task bytes Memory = Unit {0}
Means offers task bytes Words = ⊥
Means offers task bytes TooLong = ⊥
Means offers task bytes ReadFault = ⊥

-- Why an answer is given, told what is seen of the source before and after. The bytes are those that came out of its calls.
pub data IsAnswer (offers : Offers) (words : List (List ℕ)) (old new : Seen) : Answer → Type 0 where
  -- the words ask nothing, and nothing is read
  unasked : task_of words ≡ None → new ≡ old → IsAnswer offers words old new Words
  -- the program is made, and nothing is read
  of_made : {task : Task} {answer : Answer} (loops : ℕ) → task_of words ≡ Some task → made_loops task.wanted ≡ Some loops → new ≡ old → Means offers task (generated_text loops) answer → IsAnswer offers words old new answer
  -- more bytes came than are read
  too_long : {task : Task} → task_of words ≡ Some task → made_loops task.wanted ≡ None → (bytes : List ℕ) → Gave old new bytes → most_bytes task.checks < length bytes → IsAnswer offers words old new TooLong
  -- the source was read to its end
  decided : {task : Task} {answer : Answer} (bytes : List ℕ) → task_of words ≡ Some task → made_loops task.wanted ≡ None → Gave old new bytes → IsAtEnd new.known → length bytes ≤ most_bytes task.checks → Means offers task bytes answer → IsAnswer offers words old new answer
  -- the source failed
  failed : {task : Task} → task_of words ≡ Some task → made_loops task.wanted ≡ None → GaveSome old new → IsAnswer offers words old new ReadFault
  without_memory : GaveSome old new → IsAnswer offers words old new Memory

-- The answer is written: its lines and its status, or under a write fault a front of the lines.
pub data IsWritten (old new : Seen) (answer : Answer) : Status → Type 0 where
  whole : Took old new (lines_of answer) → IsWritten old new answer (status_of answer)
  front : (count : ℕ) → count < length (lines_of answer) → Took old new (take count (lines_of answer)) → IsWritten old new answer statuses.WriteFault

-- How a run ends: it has written an answer to the words and to what came out of the source.
pub record Concludes (offers : Offers) (words : List (List ℕ)) (source_old source_new sink_old sink_new : Seen) (status : Status) : Type 0 where
  pub answer : Answer
  pub is_answer : IsAnswer offers words source_old source_new answer
  pub is_written : IsWritten sink_old sink_new answer status

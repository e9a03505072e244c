use Rattle.std.proofs.Common.{◌≡◌, inl, inr, ℕ, ◌<◌, ◌≤◌, Bool, true, false, List, [], length, arith, sym, subst, Ok}
use Rattle.std.specs.Prelude.{◌↔◌}
use Rattle.tv_text.specs.Stream.{Seen, Gave, GaveSome, count_passed}
use Rattle.tv_text.proofs.StreamLemmas.{counted, gave_nothing}
use Rattle.tv_program.specs.Systems.{System}
use Rattle.tv_cases.specs.declared.case.CaseFault.{CaseFault}
use Rattle.tv_cases.specs.declared.case.CaseFault.TheVariants as cases
use Rattle.tv_cases.specs.Answers.{IsFaultIn, IsOfProgram}
use Rattle.tv_cases.specs.LinearCases.{CaseSystem}
use Rattle.tv_cases.specs.ProgramCases.{linear_cases}
use Rattle.tv_formula.specs.Properties.{Property as Formula}
use Rattle.tv_formula_reader.specs.declared.fault.FormulaFault.{FormulaFault}
use Rattle.tv_formula_reader.specs.declared.fault.FormulaFault.TheVariants as faults
use Rattle.tv_top.specs.declared.answer.Answer.{Answer}
use Rattle.tv_top.specs.declared.answer.Answer.TheVariants.{Proved, Disproved, Obligation, CertificateLine, Words, TooLong, Text, Property, Condition, WideEdge, TooManyInEdge, Unknown, ReadFault, Memory}
use Rattle.tv_top.specs.Answers.{without_cases, without_property}
use Rattle.tv_top.specs.Headline.{Given, Asked, Tells, Means, IsAnswer, unasked, of_made, too_long, decided, failed, without_memory, most_bytes}
use Rattle.tv_top.specs.Properties.{IsUnnamed, UnlessMemory}
use Rattle.tv_top.specs.Finding.{Offers}
use Rattle.tv_top.specs.Visiting.{FindsFinitely}
use Rattle.tv_top.specs.Tasks.{Task, has_certificates}

-- more bytes came than are read
pub above : (most : ℕ) (A : Type 0) (old new : Seen) → GaveSome old new → (A ↔ (most < count_passed old new)) → A → (bytes : List ℕ) × Gave old new bytes × (most < length bytes)
above most A old new some h a = (some.bytes, some.gave, subst (λ n. most < n) (counted old new some.bytes some.gave) (h.0 a))

-- what is read is short
pub below_index : (checks : Bool) (n m : ℕ) → n ≤ m → m ≤ most_bytes checks → n < 4294967295
below_index true n m h k = omega (arith, h, k)
below_index false n m h k = omega (arith, h, k)

-- some bytes came, whatever the answer
pub came : (offers : Offers) (words : List (List ℕ)) (old new : Seen) {answer : Answer} → IsAnswer offers words old new answer → GaveSome old new
came offers words old new (unasked none same) = subst (λ s. GaveSome old s) (sym same) (record { bytes = []; gave = gave_nothing old })
came offers words old new (of_made loops asks made same means) = subst (λ s. GaveSome old s) (sym same) (record { bytes = []; gave = gave_nothing old })
came offers words old new (too_long asks read bytes gave long) = record { bytes = bytes; gave = gave }
came offers words old new (decided bytes asks read gave end short means) = record { bytes = bytes; gave = gave }
came offers words old new (failed asks read some) = some
came offers words old new (without_memory some) = some

-- the same is meant of the same bytes
pub means_same : (offers : Offers) (task : Task) (bytes bytes' : List ℕ) (answer : Answer) → bytes ≡ bytes' → Means offers task bytes answer → Means offers task bytes' answer
means_same offers task bytes bytes' answer b h = subst (λ (bs : List ℕ). Means offers task bs answer) b h

-- what a program without linear cases is answered
pub no_cases : (offers : Offers) (task : Task) (bytes : List ℕ) (asked : Asked task bytes) (fault : CaseFault) → IsFaultIn (linear_cases asked.given.program) fault → Means offers task bytes (without_cases fault)
no_cases offers task bytes asked (cases.Wide edge) h = record { asked = asked; fault_is = h }
no_cases offers task bytes asked (cases.TooMany edge) h = record { asked = asked; fault_is = h }
no_cases offers task bytes asked cases.Memory h = tt

-- what words that name no property are answered
pub no_property : (offers : Offers) (task : Task) (bytes : List ℕ) (given : Given task bytes) (fault : FormulaFault) → UnlessMemory fault (IsUnnamed given.program task.query fault) → Means offers task bytes (without_property fault)
no_property offers task bytes given (faults.Syntax at) h = record { given = given; unnamed = h }
no_property offers task bytes given (faults.UnknownName at) h = record { given = given; unnamed = h }
no_property offers task bytes given (faults.NotLinear at) h = record { given = given; unnamed = h }
no_property offers task bytes given (faults.Wide at) h = record { given = given; unnamed = h }
no_property offers task bytes given (faults.Deep at) h = record { given = given; unnamed = h }
no_property offers task bytes given faults.Long h = record { given = given; unnamed = h }
no_property offers task bytes given faults.Memory h = tt

-- an answer that is none to a property
abbrev pub IsElse : Answer → Type 0
IsElse Words = Unit {0}
IsElse TooLong = Unit {0}
IsElse (Text fault) = Unit {0}
IsElse (Property fault) = Unit {0}
IsElse (Condition fault) = Unit {0}
IsElse (WideEdge edge) = Unit {0}
IsElse (TooManyInEdge edge) = Unit {0}
IsElse ReadFault = Unit {0}
IsElse answer = ⊥

-- is told of no property
not_told : (checks : Bool) (offers : Offers) (task : Task) (p : System) (f : Formula) (system : CaseSystem) (text : List ℕ) (answer : Answer) → IsElse answer → Tells checks offers task p f system text answer → ⊥
not_told true offers task p f system text Words e h = h
not_told true offers task p f system text TooLong e h = h
not_told true offers task p f system text (Text fault) e h = h
not_told true offers task p f system text (Property fault) e h = h
not_told true offers task p f system text (Condition fault) e h = h
not_told true offers task p f system text (WideEdge edge) e h = h
not_told true offers task p f system text (TooManyInEdge edge) e h = h
not_told true offers task p f system text ReadFault e h = h
not_told true offers task p f system text (Proved certificate) e h = e
not_told true offers task p f system text (Disproved at certificate) e h = e
not_told true offers task p f system text (Obligation failing) e h = e
not_told true offers task p f system text (CertificateLine line) e h = e
not_told true offers task p f system text (Unknown cause) e h = e
not_told true offers task p f system text Memory e h = e
not_told false offers task p f system text Words e h = h
not_told false offers task p f system text TooLong e h = h
not_told false offers task p f system text (Text fault) e h = h
not_told false offers task p f system text (Property fault) e h = h
not_told false offers task p f system text (Condition fault) e h = h
not_told false offers task p f system text (WideEdge edge) e h = h
not_told false offers task p f system text (TooManyInEdge edge) e h = h
not_told false offers task p f system text ReadFault e h = h
not_told false offers task p f system text (Proved certificate) e h = e
not_told false offers task p f system text (Disproved at certificate) e h = e
not_told false offers task p f system text (Obligation failing) e h = e
not_told false offers task p f system text (CertificateLine line) e h = e
not_told false offers task p f system text (Unknown cause) e h = e
not_told false offers task p f system text Memory e h = e

module _ (offers : Offers) (task : Task) (bytes : List ℕ) (asked : Asked task bytes) (of_formula : has_certificates task.query ≡ true) (system : CaseSystem) (are : linear_cases asked.given.program ≡ Ok system.cases) (of : IsOfProgram asked.given.program system) where
  abbrev TellsIt : Answer → Type 0
  TellsIt answer = Tells task.checks offers task asked.given.program asked.property system asked.given.certificate_text answer

  no_else : (answer : Answer) → IsElse answer → TellsIt answer → ⊥
  no_else answer e h = not_told task.checks offers task asked.given.program asked.property system asked.given.certificate_text answer e h

  -- what is told of the property is meant
  pub told : (answer : Answer) → TellsIt answer → Means offers task bytes answer
  told (Proved certificate) h = inl (record { asked = asked; of_formula = of_formula; cases = system; are_cases = are; of_program = of; says = h })
  told (Disproved at certificate) h = record { asked = asked; of_formula = of_formula; cases = system; are_cases = are; of_program = of; says = h }
  told (Obligation failing) h = record { asked = asked; of_formula = of_formula; cases = system; are_cases = are; of_program = of; says = h }
  told (CertificateLine line) h = record { asked = asked; of_formula = of_formula; cases = system; are_cases = are; of_program = of; says = h }
  told (Unknown cause) h = inl (record { asked = asked; of_formula = of_formula; cases = system; are_cases = are; of_program = of; says = h })
  told Memory h = tt
  told Words h = no_else Words tt h
  told TooLong h = no_else TooLong tt h
  told (Text fault) h = absurd (no_else (Text fault) tt h)
  told (Property fault) h = absurd (no_else (Property fault) tt h)
  told (Condition fault) h = absurd (no_else (Condition fault) tt h)
  told (WideEdge edge) h = absurd (no_else (WideEdge edge) tt h)
  told (TooManyInEdge edge) h = absurd (no_else (TooManyInEdge edge) tt h)
  told ReadFault h = no_else ReadFault tt h

-- what is told of visits is meant
module _ (offers : Offers) (task : Task) (bytes : List ℕ) (asked : Asked task bytes) (of_visits : has_certificates task.query ≡ false) where
  abbrev SaysIt : Answer → Type 0
  SaysIt answer = FindsFinitely offers task asked.given.program asked.property answer

  pub visited : (answer : Answer) → SaysIt answer → Means offers task bytes answer
  visited (Proved certificate) h = inr (record { asked = asked; of_visits = of_visits; says = h })
  visited (Unknown cause) h = inr (record { asked = asked; of_visits = of_visits; says = h })
  visited (Condition fault) h = record { asked = asked; of_visits = of_visits; says = h }
  visited Memory h = tt
  visited (Disproved at certificate) h = absurd h
  visited (Obligation failing) h = absurd h
  visited (CertificateLine line) h = absurd h
  visited Words h = h
  visited TooLong h = h
  visited (Text fault) h = absurd h
  visited (Property fault) h = absurd h
  visited (WideEdge edge) h = absurd h
  visited (TooManyInEdge edge) h = absurd h
  visited ReadFault h = h

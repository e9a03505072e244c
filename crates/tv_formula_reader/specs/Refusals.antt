-- The first fault of a text, and what its kind says.
use Rattle.std.specs.Prelude.{◌≡◌, ℕ, List, ◌++◌, Result, Ok, Err}
use Rattle.tv_language.specs.declared.token.Token.{Token}
use Rattle.tv_language.specs.Tokens.{IsTokens}
use Rattle.tv_program.specs.Systems.{System}
use Rattle.tv_reading.specs.Marks.{Kind, Syntax, Wide, Deep, NotLinear, UnknownName, first}
use Rattle.tv_reading.specs.Readings.{or_end}
use Rattle.tv_reading.specs.Refusals.{Refuses}
use Rattle.tv_formula_reader.specs.Seen.{seen_all}
use Rattle.tv_formula_reader.specs.FormulaGrammar.{text_at}
use Rattle.tv_formula_reader.specs.FormulaTexts.{words_of}
use Rattle.tv_reading.specs.declared.reason.Reason.{Reason}
use Rattle.tv_reading.specs.declared.reason.Reason.TheVariants as reasons
use Rattle.tv_formula_reader.specs.declared.fault.FormulaFault.{FormulaFault}
use Rattle.tv_formula_reader.specs.declared.fault.FormulaFault.TheVariants as faults

-- The first fault of the text as a formula over the words of the program has this kind, and its token is at this place.
pub record IsFirstFault (p : System) (text : List ℕ) (k : Kind) (at : ℕ) : Type 0 where
  pub tokens : List Token
  pub scanned : IsTokens 0 text tokens
  pub before : List Token
  pub behind : List Token
  pub parts : tokens ≡ before ++ behind
  pub place : (or_end (first behind)).at ≡ at
  pub refuses : Refuses text_at 64 k (seen_all (words_of p) text tokens) (seen_all (words_of p) text behind)

-- what a refusal says of the text, unless memory runs out
abbrev pub IsRefusal : System → List ℕ → FormulaFault → Type 0
IsRefusal p text (faults.Syntax at) = IsFirstFault p text Syntax at
IsRefusal p text (faults.UnknownName at) = IsFirstFault p text UnknownName at
IsRefusal p text (faults.NotLinear at) = IsFirstFault p text NotLinear at
IsRefusal p text (faults.Wide at) = IsFirstFault p text Wide at
IsRefusal p text (faults.Deep at) = IsFirstFault p text Deep at
IsRefusal p text faults.Long = Unit {0}
IsRefusal p text faults.Memory = Unit {0}

-- unless memory runs out, there is a value, which has P
abbrev pub IsGiven : {X : Type 0} → Result X FormulaFault → (X → Type 0) → Type 0
IsGiven (Ok x) P = P x
IsGiven (Err faults.Memory) P = Unit {0}
IsGiven (Err fault) P = ⊥

-- the fault for a reason, at this place; a formula has no START, and nothing in it is one too many
abbrev pub IsTold : Reason → FormulaFault → ℕ → Type 0
IsTold reasons.Syntax f at = f ≡ faults.Syntax at
IsTold reasons.Wide f at = f ≡ faults.Wide at
IsTold reasons.Deep f at = f ≡ faults.Deep at
IsTold reasons.NotLinear f at = f ≡ faults.NotLinear at
IsTold reasons.TwoStarts f at = ⊥
IsTold reasons.TooMany f at = ⊥
IsTold reasons.UnknownName f at = f ≡ faults.UnknownName at
IsTold reasons.Memory f at = f ≡ faults.Memory

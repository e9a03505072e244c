-- The property that words name over a program.
use Rattle.std.specs.Prelude.{◌≡◌, ℕ, ◌<◌, ◌≤◌, List, length, None, Some}
use Rattle.tv_reading.specs.Marks.{Kind, Syntax, Wide, Deep, NotLinear, UnknownName}
use Rattle.tv_program.specs.Words.{Word, number_of}
use Rattle.tv_program.specs.Systems.{System}
use Rattle.tv_formula.specs.Forms.{never_at}
use Rattle.tv_formula.specs.Properties.{Property, term}
use Rattle.tv_formula_reader.specs.FormulaTexts.{IsFormulaText}
use Rattle.tv_formula_reader.specs.Refusals.{IsFirstFault}
use Rattle.tv_formula_reader.specs.declared.fault.FormulaFault.{FormulaFault}
use Rattle.tv_formula_reader.specs.declared.fault.FormulaFault.TheVariants as faults
use Rattle.tv_top.specs.Tasks.{Query, safety, termination, ctl, finitely}

-- no run comes to the location with the label
pub record IsNeverAt (p : System) (label : Word) (f : Property) : Type 0 where
  pub location : ℕ
  pub is_location : number_of label p.locations ≡ Some location
  pub never : f ≡ never_at location

-- how many bytes the text of a formula has at most
abbrev pub most_formula_bytes : ℕ
most_formula_bytes = 65536

-- the text is that of this formula, and has no more bytes than a formula may have
pub record IsGivenFormula (p : System) (text : List ℕ) (f : Property) : Type 0 where
  pub short : length text ≤ most_formula_bytes
  pub is_text : IsFormulaText p text f

-- the formula that is asked about: a property of the program, or one of its states that may hold only finitely often
abbrev pub IsNamed : System → Query → Property → Type 0
IsNamed p (safety label) f = IsNeverAt p label f
IsNamed p termination f = f ≡ term
IsNamed p (ctl text) f = IsGivenFormula p text f
IsNamed p (finitely text) f = IsGivenFormula p text f

-- The text has no more bytes than a formula may have, and is that of none: its first fault has this kind, and is at this place.
pub record IsFaulty (p : System) (text : List ℕ) (k : Kind) (at : ℕ) : Type 0 where
  pub short : length text ≤ most_formula_bytes
  pub first : IsFirstFault p text k at

-- why the text is that of no formula, or not read as one
abbrev pub IsNoFormula : System → List ℕ → FormulaFault → Type 0
IsNoFormula p text (faults.Syntax at) = IsFaulty p text Syntax at
IsNoFormula p text (faults.UnknownName at) = IsFaulty p text UnknownName at
IsNoFormula p text (faults.NotLinear at) = IsFaulty p text NotLinear at
IsNoFormula p text (faults.Wide at) = IsFaulty p text Wide at
IsNoFormula p text (faults.Deep at) = IsFaulty p text Deep at
IsNoFormula p text faults.Long = most_formula_bytes < length text
IsNoFormula p text faults.Memory = ⊥

-- Why no property of the program is asked about. A label is the whole of what is asked, so that it is at fault from its first byte on.
abbrev pub IsUnnamed : System → Query → FormulaFault → Type 0
IsUnnamed p (safety label) fault = (number_of label p.locations ≡ None) × (fault ≡ faults.UnknownName 0)
IsUnnamed p termination fault = ⊥
IsUnnamed p (ctl text) fault = IsNoFormula p text fault
IsUnnamed p (finitely text) fault = IsNoFormula p text fault

-- P, unless memory runs out
abbrev pub UnlessMemory : FormulaFault → Type 0 → Type 0
UnlessMemory faults.Memory P = Unit {0}
UnlessMemory fault P = P

-- What holds of every text over the words of a program: it is that of one formula, or it has one first fault.
use Rattle.std.specs.Prelude.{◌≡◌, ℕ, List}
use Rattle.tv_program.specs.Systems.{System}
use Rattle.tv_formula.specs.Properties.{Property}
use Rattle.tv_reading.specs.Marks.{Kind}
use Rattle.tv_formula_reader.specs.FormulaTexts.{IsFormulaText}
use Rattle.tv_formula_reader.specs.Refusals.{IsFirstFault}

-- it is the text of one formula at most
abbrev pub HasOneFormula : System → List ℕ → Type 0
HasOneFormula p text = (f g : Property) → IsFormulaText p text f → IsFormulaText p text g → f ≡ g

-- it has one first fault at most: one kind, at one place
abbrev pub HasOneFirstFault : System → List ℕ → Type 0
HasOneFirstFault p text = (j k : Kind) (m n : ℕ) → IsFirstFault p text j m → IsFirstFault p text k n → (j ≡ k) × (m ≡ n)

-- where it has a first fault, it is the text of no formula
abbrev pub IsFaultlessIfFormula : System → List ℕ → Type 0
IsFaultlessIfFormula p text = (f : Property) (k : Kind) (at : ℕ) → IsFormulaText p text f → IsFirstFault p text k at → ⊥

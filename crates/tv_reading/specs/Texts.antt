-- The longest front of what is left that is a text.
use Rattle.std.specs.Prelude.{◌≡◌, List, [], ◌∷◌, ◌++◌, Some}
use Rattle.tv_grammar.specs.Reads.{next}
use Rattle.tv_language.specs.Symbols.{Symbol}
use Rattle.tv_reading.specs.Marks.{Mark, symbol_of, symbols_of}

-- A front of ms is a text that stands for x; `IsText` says, as IsSum does, what a text and the rest after it are. No text begins with
-- that front and the next token.
pub record IsLongest {X : Type 0} (IsText : X → List Symbol → List Symbol → Type 0) (x : X) (ms left : List Mark) : Type 0 where
  pub passed : List Mark
  pub parts : ms ≡ passed ++ left
  pub is : (rest : List Symbol) → IsText x (symbols_of passed ++ rest) rest
  pub none : (m : Mark) → next left ≡ Some m → (y : X) (more : List Symbol) → IsText y (symbols_of passed ++ symbol_of m ∷ more) [] → ⊥

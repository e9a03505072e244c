-- The longest front of a list that is a text of the grammar.
use Rattle.std.specs.Prelude.{◌≡◌, List, [], ◌∷◌, ◌++◌, true, false, Some, None}
use Rattle.tv_grammar.specs.Reads.{next}
use Rattle.tv_grammar.specs.Langs.{Lang}
use Rattle.tv_grammar.specs.Faults.{Begins}

-- ts is a text that stands for x, and r, and no text begins with it and the next token
pub record IsLongest {T K X : Type 0} (l : Lang T K X) (ts : List T) (x : X) (r : List T) : Type 0 where
  pub it : l.Of
  pub text : ts ≡ l.text it r
  pub is : l.value it ≡ x
  pub none : (t : T) → next r ≡ Some t → Begins l (l.text it [] ++ t ∷ []) → ⊥

-- where a derivation that may end with the text goes on at a token, a text begins with it and the token
abbrev pub Further : {T K X : Type 0} → Lang T K X → Type 0
Further {T} l = (d : l.Of) → l.goes_on d None ≡ false → (t : T) → l.goes_on d (Some t) ≡ true → Begins l (l.text d [] ++ t ∷ [])

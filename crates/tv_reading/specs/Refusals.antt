-- What the kind of a refusal says.
use Rattle.std.specs.Prelude.{◌≡◌, ℕ, ◌<◌, Bool, true, false, List, [], ◌∷◌, ◌++◌, Some, nat_le, nat_lt}
use Rattle.tv_grammar.specs.Reads.{next}
use Rattle.tv_grammar.specs.Langs.{Lang}
use Rattle.tv_grammar.specs.Faults.{NoneIn, Begins}
use Rattle.tv_reading.specs.Marks.{Kind, Syntax, Wide, Deep, NotLinear, TwoStarts, TooMany, UnknownName}
use Rattle.tv_reading.specs.SumGrammar.{every}

-- the order of kinds at one place
abbrev pub rank : Kind → ℕ
rank Syntax = 0
rank Wide = 1
rank Deep = 2
rank NotLinear = 3
rank TwoStarts = 4
rank TooMany = 5
rank UnknownName = 6

-- this kind and those before it
abbrev pub upto : Kind → Kind → Bool
upto k j = nat_le (rank j) (rank k)

-- the kinds before it
abbrev pub under : Kind → Kind → Bool
under k j = nat_lt (rank j) (rank k)

-- the levels m of a looser grammar: the same, or more where depth is no fault
abbrev pub Levels : Bool → ℕ → ℕ → Type 0
Levels true n m = n ≡ m
Levels false n m = n < m

-- Reading is refused at the first of r with this kind, by a grammar of n levels that is given which kinds of fault are kept.
pub record Refuses {T X : Type 0} (grammar : (Kind → Bool) → ℕ → Lang T Kind X) (n : ℕ) (k : Kind) (ts r : List T) : Type 0 where
  pub before : List T
  pub parts : ts ≡ before ++ r
  -- a text begins with what stands before
  pub some : Begins (grammar every n) before
  -- no text begins with the tokens up to r's first, also where only this kind and those before it are faults
  pub none : (m : ℕ) → Levels (upto k Deep) n m → NoneIn (grammar (upto k) m) before r
  -- where only the kinds before it are faults, one does
  pub begun : (k ≡ Syntax → ⊥) → (t : T) → next r ≡ Some t → (m : ℕ) → Levels (under k Deep) n m → Begins (grammar (under k) m) (before ++ t ∷ [])

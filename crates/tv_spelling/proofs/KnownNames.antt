-- The words of the variables in a tree are names, each the first of its word.
use Rattle.std.proofs.Common.{◌≡◌, ℕ, List, [], ◌∷◌, Some}
use Rattle.std.specs.Prelude.{slice_index_or}
use Rattle.tv_program.specs.Words.{Word, number_of}
use Rattle.tv_program.specs.Trees.{Expression, number, variable, draw, minus, sum, product, Expressions, no_part, part}
use Rattle.tv_spelling.specs.ReadAgain.{IsName}
use Rattle.tv_spelling.proofs.Mentioned.{variables_of, variables_among}

pub record IsKnown (ws : List Word) (v : ℕ) : Type 0 where
  pub name : IsName (slice_index_or ws v [])
  pub placed : number_of (slice_index_or ws v []) ws ≡ Some v

abbrev mutual
  pub AreKnownIn : List Word → Expression → Type 0
  AreKnownIn ws (number z) = Unit {0}
  AreKnownIn ws (variable v) = IsKnown ws v
  AreKnownIn ws (draw d) = Unit {0}
  AreKnownIn ws (minus e) = AreKnownIn ws e
  AreKnownIn ws (sum es) = AreKnownAmong ws es
  AreKnownIn ws (product es) = AreKnownAmong ws es

  pub AreKnownAmong : List Word → Expressions → Type 0
  AreKnownAmong ws no_part = Unit {0}
  AreKnownAmong ws (part e es) = AreKnownIn ws e × AreKnownAmong ws es

abbrev pub EachKnown : List Word → List ℕ → Type 0
EachKnown ws [] = Unit {0}
EachKnown ws (v ∷ vs) = IsKnown ws v × EachKnown ws vs

mutual
  -- the variables of the tree, and those after them
  pub known_in : (ws : List Word) (e : Expression) (vs : List ℕ) → EachKnown ws (variables_of e vs) → AreKnownIn ws e × EachKnown ws vs
  known_in ws (number z) vs h = (tt, h)
  known_in ws (variable v) vs h = h
  known_in ws (draw d) vs h = (tt, h)
  known_in ws (minus e) vs h = known_in ws e vs h
  known_in ws (sum es) vs h = known_among ws es vs h
  known_in ws (product es) vs h = known_among ws es vs h

  known_among : (ws : List Word) (es : Expressions) (vs : List ℕ) → EachKnown ws (variables_among es vs) → AreKnownAmong ws es × EachKnown ws vs
  known_among ws no_part vs h = (tt, h)
  known_among ws (part e es) vs h = let a = known_in ws e (variables_among es vs) h in let b = known_among ws es vs a.1 in ((a.0, b.0), b.1)

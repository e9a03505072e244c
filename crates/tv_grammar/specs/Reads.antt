-- What reading answers: a value and the tokens that are left, or the kind of a fault and the tokens from it on.
use Rattle.std.specs.Prelude.{List, [], ◌∷◌, Option, Some, None, Result, Ok, Err}

pub data Fault (T K : Type 0) : Type 0 where
  faulty : K → List T → Fault T K

abbrev pub Read : Type 0 → Type 0 → Type 0 → Type 0
Read T K X = List T → Result (X × List T) (Fault T K)

infixl 10 ◌>>=◌
abbrev pub ◌>>=◌ : {E A B : Type 0} → Result A E → (A → Result B E) → Result B E
(Ok x) >>= f = f x
(Err e) >>= f = Err e

abbrev pub fault : {T K X : Type 0} → K → List T → Result X (Fault T K)
fault kind rest = Err (faulty kind rest)

-- the next token; none at the end
abbrev pub next : {T : Type 0} → List T → Option T
next [] = None
next (t ∷ ts) = Some t

-- the first of these tokens, or u where there is none
abbrev pub first_or : {T : Type 0} → List T → Option T → Option T
first_or [] u = u
first_or (t ∷ ts) u = Some t

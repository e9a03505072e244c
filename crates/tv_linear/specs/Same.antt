-- Known rows that have the same numbers, in whichever ways they are known.
use Rattle.std.specs.Prelude.{◌≡◌, ℕ, ◌<◌, List, [], ◌∷◌, Option, None, Some}
use Rattle.tv_linear.specs.Known.{Known, known_number, KnownHeld}

-- the two rows have the same numbers in the first n columns and the same constant; where those of the first can be told, so can those of
-- the second
pub record SameNumbers (n : ℕ) (k q : Known) : Type 0 where
  pub inner : (j : ℕ) → j < n → known_number q (Some j) ≡ known_number k (Some j)
  pub constant : known_number q None ≡ known_number k None
  pub inner_held : (j : ℕ) → j < n → KnownHeld k (Some j) → KnownHeld q (Some j)
  pub constant_held : KnownHeld k None → KnownHeld q None

-- the same of as many rows in order
abbrev pub AreSame : ℕ → List Known → List Known → Type 0
AreSame n [] [] = Unit {0}
AreSame n [] (q ∷ qs) = ⊥
AreSame n (k ∷ ks) [] = ⊥
AreSame n (k ∷ ks) (q ∷ qs) = SameNumbers n k q × AreSame n ks qs

-- what is owed first is owed in another way too
abbrev pub OwedSame : ℕ → Option (List Known) → Option (List Known) → Type 0
OwedSame n None b = Unit {0}
OwedSame n (Some xs) None = ⊥
OwedSame n (Some xs) (Some ys) = AreSame n xs ys

use Rattle.std.specs.Prelude.{ℕ, zero, suc, List, [], ◌∷◌, map, ℤ, pos, neg_ℤ, ◌+ℤ◌, ◌-ℤ◌, ◌*ℤ◌, ◌≤ℤ◌, slice_index_or, Option, None, Some}
use Rattle.tv_linear.specs.Linear.{Linear, value}
use Rattle.tv_linear.specs.Fits.{IsHeld}

-- what a column is replaced by: a column itself, or a row
pub data Term : Type 0 where
  kept : ℕ → Term
  put : Linear → Term

-- a row that is known or to be shown, by how it is made; its numbers have no bound
pub data Known : Type 0 where
  given : Linear → Known
  denied : Known → Known
  composed : Known → List Term → Known
  -- the first less the second, plus a number
  less : Known → Known → ℤ → Known

-- the sum of the number at each place j, f j times x_j
abbrev pub place_sum : (ℕ → ℤ) → List ℤ → ℤ
place_sum f [] = pos 0
place_sum f (x ∷ xs) = (f 0 *ℤ x) +ℤ place_sum (λ j. f (suc j)) xs

-- the number of a row in a column, which is 0 past the last, or its constant where no column is named
abbrev pub number : Option ℕ → Linear → ℤ
number None r = r.constant
number (Some j) r = slice_index_or r.coefficients j (pos 0)

-- 1 in the one column and 0 in the others
abbrev pub unit_number : ℕ → ℕ → ℤ
unit_number zero zero = pos 1
unit_number zero (suc v) = pos 0
unit_number (suc j) zero = pos 0
unit_number (suc j) (suc v) = unit_number j v

-- the number of a term in a column, or its constant
abbrev pub term_number : Option ℕ → Term → ℤ
term_number None (kept v) = pos 0
term_number (Some j) (kept v) = unit_number j v
term_number column (put r) = number column r

-- the value of a term at a list of numbers
abbrev pub term_value : List ℤ → Term → ℤ
term_value xs (kept v) = slice_index_or xs v (pos 0)
term_value xs (put r) = value r xs

-- the number of such a row in a column, or its constant
abbrev pub known_number : Known → Option ℕ → ℤ
known_number (given r) column = number column r
known_number (denied k) None = pos 1 -ℤ known_number k None
known_number (denied k) (Some j) = neg_ℤ (known_number k (Some j))
known_number (composed k terms) None =
    place_sum (λ v. known_number k (Some v)) (map (term_number None) terms) +ℤ known_number k None
known_number (composed k terms) (Some j) = place_sum (λ v. known_number k (Some v)) (map (term_number (Some j)) terms)
known_number (less a b z) None = known_number a None -ℤ known_number b None +ℤ z
known_number (less a b z) (Some j) = known_number a (Some j) -ℤ known_number b (Some j)

-- from place v on: each number f v can be told, and each product and partial sum is below 2^127 in magnitude
abbrev pub PlacesHeld : (ℕ → Type 0) → (ℕ → ℤ) → ℤ → ℕ → List ℤ → Type 0
PlacesHeld told f sum v [] = Unit {0}
PlacesHeld told f sum v (x ∷ xs) =
    told v × IsHeld (f v *ℤ x) × IsHeld (sum +ℤ f v *ℤ x) × PlacesHeld told f (sum +ℤ f v *ℤ x) (suc v) xs

-- on the way to the row's number in a column each product, partial sum, composed number, denial and
-- difference is below 2^127 in magnitude
abbrev pub KnownHeld : Known → Option ℕ → Type 0
KnownHeld (given r) column = Unit {0}
KnownHeld (denied k) None = KnownHeld k None × IsHeld (pos 1 -ℤ known_number k None)
KnownHeld (denied k) (Some j) = KnownHeld k (Some j) × IsHeld (neg_ℤ (known_number k (Some j)))
KnownHeld (composed k terms) None =
    PlacesHeld (λ v. KnownHeld k (Some v)) (λ v. known_number k (Some v)) (pos 0) 0 (map (term_number None) terms)
    × KnownHeld k None
    × IsHeld (place_sum (λ v. known_number k (Some v)) (map (term_number None) terms) +ℤ known_number k None)
KnownHeld (composed k terms) (Some j) =
    PlacesHeld (λ v. KnownHeld k (Some v)) (λ v. known_number k (Some v)) (pos 0) 0 (map (term_number (Some j)) terms)
KnownHeld (less a b z) None =
    KnownHeld a None
    × KnownHeld b None
    × IsHeld (known_number a None -ℤ known_number b None)
    × IsHeld (known_number a None -ℤ known_number b None +ℤ z)
KnownHeld (less a b z) (Some j) =
    KnownHeld a (Some j) × KnownHeld b (Some j) × IsHeld (known_number a (Some j) -ℤ known_number b (Some j))

-- its value at a list of numbers
abbrev pub known_value : List ℤ → Known → ℤ
known_value xs k = place_sum (λ j. known_number k (Some j)) xs +ℤ known_number k None

-- it is met where its value is at most 0
abbrev pub IsKnownMet : List ℤ → Known → Type 0
IsKnownMet xs k = known_value xs k ≤ℤ pos 0

-- rows as they are given
abbrev pub as_given : List Linear → List Known
as_given rows = map (λ r. given r) rows

-- The rows of a piece by the signs of terms.
use Rattle.std.proofs.Common.{◌≡◌, ℕ, zero, suc, ◌+◌, ◌<◌, ◌≤◌, List, [], ◌∷◌, ◌++◌, length, map, take, get_or, Some, None, Option, arith, refl, sym, ap, ◌∙◌, ℤ, pos, neg_ℤ, ◌+ℤ◌, slice_index_or}
use Rattle.std.proofs.lemmas.Int.{ints}
use Rattle.tv_linear.specs.Linear.{Linear}
use Rattle.tv_linear.specs.Arithmetic.{opposite, denial}
use Rattle.tv_linear.specs.Known.{number}
use Rattle.tv_nested.specs.Signs.{sign_rows}
use Rattle.tv_nested.proofs.SplitLemmas.{index_neg}

-- the rows of the piece of a list of terms
abbrev pub rows_by : List Linear → ℕ → List Linear
rows_by terms p = sign_rows (map opposite terms) p

pub rows_length : (terms : List Linear) (p : ℕ) → p < length terms → length (rows_by terms p) ≡ p + 1
rows_length [] p h = absurd (omega (arith, h))
rows_length (t ∷ terms) zero h = refl
rows_length (t ∷ terms) (suc p) h = (let e = rows_length terms p (omega (arith, h)) in omega (arith, e))

pub all_rows_length : (terms : List Linear) (p : ℕ) → p ≡ length terms → length (rows_by terms p) ≡ p
all_rows_length [] p h = sym h
all_rows_length (t ∷ terms) zero h = absurd (omega (arith, h))
all_rows_length (t ∷ terms) (suc p) h = ap suc (all_rows_length terms p (omega (arith, h)))

-- a row with those before and after it
pub record Around (rows : List Linear) (place : ℕ) (row : Linear) : Type 0 where
  pub front : List Linear
  pub back : List Linear
  pub parts : rows ≡ front ++ row ∷ back
  pub many : length front ≡ place

further : (rows : List Linear) (place : ℕ) (row first : Linear) → Around rows place row → Around (first ∷ rows) (suc place) row
further rows place row first h = record { front = first ∷ h.front; back = h.back; parts = ap (λ zs. first ∷ zs) h.parts; many = ap suc h.many }

-- a term before that of the piece is below 0
pub below_there : (terms : List Linear) (p i : ℕ) (d : Linear) → i < p → p ≤ length terms → Around (rows_by terms p) i (denial (opposite (get_or terms i d)))
below_there [] p i d h l = absurd (omega (arith, h, l))
below_there (t ∷ terms) zero i d h l = absurd (omega (arith, h))
below_there (t ∷ terms) (suc p) zero d h l = record { front = []; back = rows_by terms p; parts = refl; many = refl }
below_there (t ∷ terms) (suc p) (suc i) d h l = further (rows_by terms p) i (denial (opposite (get_or terms i d))) (denial (opposite t)) (below_there terms p i d (omega (arith, h)) (omega (arith, l)))

-- that of the piece is not
pub at_least_there : (terms : List Linear) (p : ℕ) (d : Linear) → p < length terms → Around (rows_by terms p) p (opposite (get_or terms p d))
at_least_there [] p d h = absurd (omega (arith, h))
at_least_there (t ∷ terms) zero d h = record { front = []; back = []; parts = refl; many = refl }
at_least_there (t ∷ terms) (suc p) d h = further (rows_by terms p) p (opposite (get_or terms p d)) (denial (opposite t)) (at_least_there terms p d (omega (arith, h)))

-- ---- their numbers
twice_index : (cs : List ℤ) (j : ℕ) → slice_index_or (map neg_ℤ (map neg_ℤ cs)) j (pos 0) ≡ slice_index_or cs j (pos 0)
twice_index cs j = index_neg (map neg_ℤ cs) j ∙ (let e = index_neg cs j in omega (arith, ints, e))

pub below_number : (t : Linear) (j : ℕ) → number (Some j) (denial (opposite t)) ≡ number (Some j) t
below_number t j = twice_index t.coefficients j

pub below_constant : (t : Linear) → number None (denial (opposite t)) ≡ number None t +ℤ pos 1
below_constant t = omega (arith, ints)

pub opposite_number : (t : Linear) (c : Option ℕ) → number c (opposite t) ≡ neg_ℤ (number c t)
opposite_number t None = refl
opposite_number t (Some j) = index_neg t.coefficients j

-- ---- the rows one after the other
pub rows_next : (signs : List Linear) (q : ℕ) (r : Linear) → q < length signs → r ≡ get_or signs q r → sign_rows signs q ≡ map denial (take q signs) ++ r ∷ []
rows_next [] q r h e = absurd (omega (arith, h))
rows_next (s ∷ signs) zero r h e = ap (λ z. z ∷ []) (sym e)
rows_next (s ∷ signs) (suc q) r h e = ap (λ zs. denial s ∷ zs) (rows_next signs q r (omega (arith, h)) e)

pub rows_all : (signs : List Linear) (q : ℕ) → q ≡ length signs → sign_rows signs q ≡ map denial (take q signs)
rows_all [] zero h = refl
rows_all [] (suc q) h = absurd (omega (arith, h))
rows_all (s ∷ signs) zero h = absurd (omega (arith, h))
rows_all (s ∷ signs) (suc q) h = ap (λ zs. denial s ∷ zs) (rows_all signs q (omega (arith, h)))

use Rattle.std.specs.Prelude.{◌≡◌, ℕ, ◌+◌, ◌<◌, List, map, get_or, ℤ, pos, neg_ℤ, ◌+ℤ◌, ◌-ℤ◌, ◌*ℤ◌, Option, None, Some, Bool, true, false}
use Rattle.tv_linear.specs.Fits.{IsHeld}
use Rattle.tv_linear.specs.Refutation.{ColumnHeld, column_sum}
use Rattle.tv_linear.specs.Known.{Known, Term, PlacesHeld, place_sum, KnownHeld, known_number, term_number}

-- the column k places further; the constant stays the constant
abbrev pub further : Option ℕ → ℕ → Option ℕ
further None k = None
further (Some j) k = Some (j + k)

-- where it is true, each of `count` numbers can be told and stands in the list, and else not all can be told
abbrev pub AreTold : Bool → ℕ → (ℕ → Type 0) → (ℕ → ℤ) → List ℤ → Type 0
AreTold false count told number xs = ((k : ℕ) → k < count → told k) → ⊥
AreTold true count told number xs = (k : ℕ) → k < count → told k × (get_or xs k (pos 0) ≡ number k)

-- a product, and a sum with it, are below 2^127 in magnitude
abbrev pub IsAddedHeld : ℤ → ℤ → ℤ → Type 0
IsAddedHeld sum a x = IsHeld (a *ℤ x) × IsHeld (sum +ℤ a *ℤ x)

-- the number of a denied row in a column, or its constant, and whether it is below 2^127 in magnitude
abbrev pub denial : Option ℕ → ℤ → ℤ
denial None z = pos 1 -ℤ z
denial (Some j) z = neg_ℤ z

abbrev pub DenialHeld : Option ℕ → ℤ → Type 0
DenialHeld column z = IsHeld (denial column z)

-- the same of the first row less the second, plus a number
abbrev pub lessened : Option ℕ → ℤ → ℤ → ℤ → ℤ
lessened None more a b = a -ℤ b +ℤ more
lessened (Some j) more a b = a -ℤ b

abbrev pub LessHeld : Option ℕ → ℤ → ℤ → ℤ → Type 0
LessHeld None more a b = IsHeld (a -ℤ b) × IsHeld (a -ℤ b +ℤ more)
LessHeld (Some j) more a b = IsHeld (a -ℤ b)

-- the sum is 0 in each column before the first, with each number on the way held
abbrev pub AreCancelled : List ℤ → List Known → ℕ → Type 0
AreCancelled ms rows first = (j : ℕ) → j < first → ColumnHeld ms rows (Some j) × (column_sum ms rows (Some j) ≡ pos 0)

-- each of the first numbers is below 2^127 in magnitude
abbrev pub AreHeld : ℕ → List ℤ → Type 0
AreHeld count xs = (k : ℕ) → k < count → IsHeld (get_or xs k (pos 0))

-- ---- composed rows
-- each number, product and sum on the way to the sum over the terms is below 2^127 in magnitude
abbrev pub TermsHeld : Known → List Term → Option ℕ → Type 0
TermsHeld k terms column =
    PlacesHeld (λ v. KnownHeld k (Some v)) (λ v. known_number k (Some v)) (pos 0) 0 (map (term_number column) terms)

-- the sum over the terms that are put in for the columns of a row
abbrev pub terms_sum : Known → List Term → Option ℕ → ℤ
terms_sum k terms column = place_sum (λ v. known_number k (Some v)) (map (term_number column) terms)

-- a sum and the row's own constant, which is added to the constant alone
abbrev pub with_constant : Known → Option ℕ → ℤ → ℤ
with_constant k None sum = sum +ℤ known_number k None
with_constant k (Some j) sum = sum

abbrev pub ConstantHeld : Known → Option ℕ → ℤ → Type 0
ConstantHeld k None sum = KnownHeld k None × IsHeld (sum +ℤ known_number k None)
ConstantHeld k (Some j) sum = Unit {0}

use Rattle.std.specs.Prelude.{◌≡◌, ℕ, ◌+◌, ◌<◌, List, [], ◌∷◌, ◌++◌, length, map, get_or, All, ℤ, pos, ◌+ℤ◌, ◌≤ℤ◌, ◌==◌, if◌then◌else◌, slice_index_or}
use Rattle.tv_linear.specs.Linear.{Linear, linear, columns, scaled_value, IsScaledPoint, IsWithin}
use Rattle.tv_linear.specs.Arithmetic.{constant_row}
use Rattle.tv_linear.specs.Known.{Term, kept, put, Known, given, denied, composed, less, as_given}
use Rattle.tv_linear.specs.Terms.{table, terms_after}
use Rattle.tv_linear.specs.Falls.{zero_row}
use Rattle.tv_linear.specs.Refutation.{Refutes}
use Rattle.tv_rank.specs.declared.found.LocalTerm.{LocalTerm}
use Rattle.tv_rank.specs.Ways.{Way, met_rows}

-- the term at a location
abbrev pub term_at : List Linear → ℕ → Linear
term_at terms l = get_or terms l (linear [] (pos 0))

-- ---- terms over the rationals
-- the value of a term of a case at the rational point xs / z, times z
abbrev pub scaled_term : List ℤ → ℤ → Term → ℤ
scaled_term xs z (kept v) = slice_index_or xs v (pos 0)
scaled_term xs z (put r) = scaled_value r xs z

-- the scaled value of the term where the way starts, before it, and of the term where it ends, after it
abbrev pub value_before : List Linear → Way → List ℤ → ℤ → ℤ
value_before terms w xs z = scaled_value (term_at terms w.taken.from) xs z

abbrev pub value_after : ℕ → List Linear → Way → List ℤ → ℤ → ℤ
value_after v terms w xs z = scaled_value (term_at terms w.taken.to) (map (scaled_term xs z) (terms_after v w.taken.updates)) z

-- a rational point over the variables and draws at which the rows that are met are at most 0
pub record IsWayPoint (v : ℕ) (w : Way) (xs : List ℤ) (z : ℤ) : Type 0 where
  pub width : length xs ≡ v + w.taken.draws
  pub meets : IsScaledPoint (met_rows w) xs z

abbrev pub HasPoint : ℕ → Way → Type 0
HasPoint v w = (xs : List ℤ) × (z : ℤ) × IsWayPoint v w xs z

-- The terms grow over none of the first ways at any rational point, and over the falling one they fall by at least 1 from a
-- value of at least 0.
pub record Ranks (v many : ℕ) (ways : ℕ → Way) (falling : ℕ) (terms : List Linear) : Type 0 where
  pub grows_nowhere : (k : ℕ) → k < many → (xs : List ℤ) (z : ℤ) → IsWayPoint v (ways k) xs z →
      value_after v terms (ways k) xs z ≤ℤ value_before terms (ways k) xs z
  pub bounded : (xs : List ℤ) (z : ℤ) → IsWayPoint v (ways falling) xs z → pos 0 ≤ℤ value_before terms (ways falling) xs z
  pub falls : (xs : List ℤ) (z : ℤ) → IsWayPoint v (ways falling) xs z →
      (value_after v terms (ways falling) xs z +ℤ z) ≤ℤ value_before terms (ways falling) xs z

-- no terms with whole coefficients do, and so none over the rationals
abbrev pub NoneRanks : ℕ → ℕ → (ℕ → Way) → ℕ → Type 0
NoneRanks v many ways falling = (terms : List Linear) → All (λ t. columns t ≡ v) terms → Ranks v many ways falling terms → ⊥

-- ---- what shows that terms do not grow, and fall
-- the term at a location, which is 0 where none stands
abbrev pub local_term : ℕ → List LocalTerm → ℕ → Linear
local_term v [] l = constant_row v (pos 0)
local_term v (t ∷ ts) l = if t.location == l then t.row else local_term v ts l

-- the terms at the locations, one each, in their order
abbrev pub listed_terms : ℕ → ℕ → List LocalTerm → List Linear
listed_terms v locations terms = table locations (local_term v terms)

-- the row of the term after a way less the term before it, plus a number
abbrev pub change_row : ℕ → List LocalTerm → Way → ℤ → Known
change_row v terms w z =
    less (composed (given (local_term v terms w.taken.to)) (terms_after v w.taken.updates)) (given (local_term v terms w.taken.from)) z

-- the row of the opposite of the term before a way
abbrev pub bound_row : ℕ → List LocalTerm → Way → Known
bound_row v terms w = less (given zero_row) (given (local_term v terms w.taken.from)) (pos 0)

-- the multipliers refute the rows that are met, together with the denial of a row
abbrev pub IsShownBy : ℕ → Way → Known → List ℤ → Type 0
IsShownBy v w row ms = Refutes (v + w.taken.draws) ((as_given w.known ++ as_given w.taken.guards) ++ denied row ∷ []) ms

-- by how much the term falls over a way at least
abbrev pub fall_of : ℕ → ℕ → ℤ
fall_of falling k = if k == falling then pos 1 else pos 0

-- Terms at locations, and multipliers for each way and then once more for the falling one: they show that the term does not
-- grow over the way, and falls by at least 1 over the falling one, and that it is not below 0 before that. The same holds at all
-- rational points.
pub record IsFamily (v locations many : ℕ) (ways : ℕ → Way) (falling : ℕ) (terms : List LocalTerm) (multipliers : List (List ℤ)) : Type 0 where
  pub each : All (λ t. t.location < locations) terms
  pub wide : All (λ t. columns t.row ≡ v) terms
  pub counted : length multipliers ≡ many + 1
  pub steps : (k : ℕ) → k < many → IsShownBy v (ways k) (change_row v terms (ways k) (fall_of falling k)) (get_or multipliers k [])
  pub bound : IsShownBy v (ways falling) (bound_row v terms (ways falling)) (get_or multipliers many [])
  pub narrow : All (All (IsWithin 62)) multipliers
  pub ranks : Ranks v many ways falling (listed_terms v locations terms)

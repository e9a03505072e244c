-- Terms that are nested over ways, with what shows it.
use Rattle.std.specs.Prelude.{◌≡◌, ℕ, zero, suc, ◌+◌, ◌^◌, ◌<◌, ◌≤◌, List, [], ◌∷◌, ◌++◌, Option, None, Some, unsigned_abs, length, map, get_or, All, ℤ, pos, ◌<ℤ◌}
use Rattle.tv_linear.specs.Linear.{Linear, columns, IsWithin}
use Rattle.tv_linear.specs.Known.{Known, KnownHeld, given, composed, less, number, known_number}
use Rattle.tv_linear.specs.Terms.{terms_after}
use Rattle.tv_linear.specs.Falls.{zero_row}
use Rattle.tv_simplex.specs.Outcomes.{IsShort}
use Rattle.tv_rank.specs.Ways.{Way, met_rows}
use Rattle.tv_rank.specs.Rankings.{local_term, listed_terms, IsShownBy}
use Rattle.tv_rank.specs.declared.found.LocalTerm.{LocalTerm}
use Rattle.tv_nested.specs.Tuples.{IsNested}

-- the term with a number at a location, which is 0 where none stands
abbrev pub nested_term : ℕ → List (List LocalTerm) → ℕ → ℕ → Linear
nested_term v terms j l = local_term v (get_or terms j []) l

-- the term before the one with a number, where a way starts: there is none before the first
abbrev pub row_before : ℕ → List (List LocalTerm) → ℕ → Way → Linear
row_before v terms zero w = zero_row
row_before v terms (suc j) w = nested_term v terms j w.taken.from

-- the row of the term with a number after a way, less that term and the one before it where the way starts, plus a number
abbrev pub step_row : ℕ → List (List LocalTerm) → Way → ℤ → ℕ → Known
step_row v terms w scale j =
    less (less (composed (given (nested_term v terms j w.taken.to)) (terms_after v w.taken.updates)) (given (nested_term v terms j w.taken.from)) (pos 0))
    (given (row_before v terms j w)) scale

-- the row of the opposite of the last of d terms where a way starts
abbrev pub end_row : ℕ → List (List LocalTerm) → Way → ℕ → Known
end_row v terms w d = less (given zero_row) (given (row_before v terms d w)) (pos 0)

-- the multipliers of an identity of a way
abbrev pub line_at : List (List (List ℤ)) → ℕ → ℕ → List ℤ
line_at lines k i = get_or (get_or lines k []) i []

-- a column of rows with n columns, or the constant
abbrev pub IsColumn : ℕ → Option ℕ → Type 0
IsColumn n None = Unit {0}
IsColumn n (Some j) = j < n

-- the row of the term with a number after a way
abbrev pub moved_row : ℕ → List (List LocalTerm) → Way → ℕ → Known
moved_row v terms w j = composed (given (nested_term v terms j w.taken.to)) (terms_after v w.taken.updates)

-- The numbers from which the multipliers add up what they show are far below what may be held, and so are the terms after the ways. The
-- multiplier of what is shown is 1.
pub record HasRoom (v d many : ℕ) (ways : ℕ → Way) (terms : List (List LocalTerm)) (lines : List (List (List ℤ))) : Type 0 where
  pub few : (k : ℕ) → k < many → length (met_rows (ways k)) ≤ 4000000
  pub rows : (k : ℕ) → k < many → (c : Option ℕ) → IsColumn (v + (ways k).taken.draws) c → All (λ r. unsigned_abs (number c r) < 2 ^ 41) (met_rows (ways k))
  pub kept : (k : ℕ) → k < many → (j : ℕ) → j < d → (c : Option ℕ) → unsigned_abs (number c (nested_term v terms j (ways k).taken.from)) < 2 ^ 62
  pub told : (k : ℕ) → k < many → (j : ℕ) → j < d → (c : Option ℕ) → IsColumn (v + (ways k).taken.draws) c → KnownHeld (moved_row v terms (ways k) j) c
  pub moved : (k : ℕ) → k < many → (j : ℕ) → j < d → (c : Option ℕ) → IsColumn (v + (ways k).taken.draws) c →
      unsigned_abs (known_number (moved_row v terms (ways k) j) c) < 2 ^ 113
  pub ones : (k : ℕ) → k < many → (i : ℕ) → i ≤ d → (ms : List ℤ) × (line_at lines k i ≡ ms ++ pos 1 ∷ [])

-- d terms at locations, a scale, and for each way a list of multipliers for each term and one more: they show that each term and the one
-- before it together fall over the way by at least the scale, and that the last is not below 0 before it. So the terms are nested at all
-- rational points.
pub record IsNestedFamily (v locations many d : ℕ) (ways : ℕ → Way) (terms : List (List LocalTerm)) (scale : ℤ) (lines : List (List (List ℤ))) : Type 0 where
  pub as_many : length terms ≡ d
  pub each : All (All (λ t. t.location < locations)) terms
  pub wide : All (All (λ t. columns t.row ≡ v)) terms
  pub positive : pos 0 <ℤ scale
  pub short : IsShort scale
  pub counted : length lines ≡ many
  pub falls : (k : ℕ) → k < many → (j : ℕ) → j < d → IsShownBy v (ways k) (step_row v terms (ways k) scale j) (line_at lines k j)
  pub bounded : (k : ℕ) → k < many → IsShownBy v (ways k) (end_row v terms (ways k) d) (line_at lines k d)
  pub narrow : All (All (All (IsWithin 62))) lines
  pub room : HasRoom v d many ways terms lines
  pub nested : IsNested v d many ways (map (listed_terms v locations) terms)

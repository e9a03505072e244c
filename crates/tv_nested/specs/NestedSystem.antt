-- The system whose solutions are terms that become decreasing one after the other.
use Rattle.std.specs.Prelude.{ℕ, zero, suc, ◌+◌, List, [], ◌∷◌, ◌++◌, length, map, get_or, ℤ, pos, neg_ℤ, ◌+ℤ◌, ◌-ℤ◌, Option, None, Some, Bool, ◌==◌, ◌&&◌, if◌then◌else◌}
use Rattle.std.specs.List.{flat_map}
use Rattle.tv_linear.specs.Linear.{linear}
use Rattle.tv_linear.specs.Known.{number}
use Rattle.tv_simplex.specs.Systems.{Equations}
use Rattle.tv_cases.specs.LinearCases.{LinearCase}
use Rattle.tv_rank.specs.Ways.{Way, met_rows, touches}
use Rattle.tv_rank.specs.RankingSystem.{unit_at, entered, left}
use Rattle.tv_nested.specs.declared.unknown.Identity.{Identity}
use Rattle.tv_nested.specs.declared.unknown.Unknown.{Unknown}
use Rattle.tv_nested.specs.declared.unknown.Unknown.TheVariants.{Positive, Negative, Multiplier, Slack}
use Rattle.tv_nested.specs.declared.unknown.Line.{Line}

-- A column is that of a variable or of a draw, or of the constant, which has no number. So is a number of a term.

abbrev pub identity : ℕ → ℕ → Identity
identity k i = record { place = k; index = i }

abbrev pub line : Identity → Option ℕ → Line
line id c = record { identity = id; column = c }

-- whether two identities are the same
abbrev pub same : Identity → Identity → Bool
same a b = a.place == b.place && a.index == b.index

-- A number of the term j at a location in the identity i of a case: that of its own identity is the term after the case less the
-- term before it, and that of the next one is the opposite of the term before it.
abbrev pub term_entry : LinearCase → ℕ → ℕ → Option ℕ → ℕ → Option ℕ → ℤ
term_entry c l j n i column =
    (if i == j then entered c l n column -ℤ left c l n column else pos 0) +ℤ (if i == suc j then neg_ℤ (left c l n column) else pos 0)

-- The number of an unknown in a row of the system, which speaks of a way: the left side of the identity less its right side.
abbrev pub entry_of_way : Way → Line → Unknown → ℤ
entry_of_way w row (Positive l j n) = term_entry w.taken l j n row.identity.index row.column
entry_of_way w row (Negative l j n) = neg_ℤ (term_entry w.taken l j n row.identity.index row.column)
entry_of_way w row (Multiplier id i) =
    if same id row.identity then neg_ℤ (number row.column (get_or (met_rows w) i (linear [] (pos 0)))) else pos 0
entry_of_way w row (Slack id) = if same id row.identity then unit_at None row.column else pos 0

abbrev pub entry : (ℕ → Way) → Line → Unknown → ℤ
entry ways row unknown = entry_of_way (ways row.identity.place) row unknown

-- the right side: each of the d terms falls by 1, and the identity past the last has none
abbrev pub right_of : ℕ → Identity → Option ℕ → ℤ
right_of d id None = if id.index == d then pos 0 else neg_ℤ (pos 1)
right_of d id (Some j) = pos 0

-- ---- the unknowns in their order
-- the numbers of a term at a location, each as a positive part less a negative part, the constant last
abbrev pub pairs_below : ℕ → ℕ → ℕ → List Unknown
pairs_below l j zero = []
pairs_below l j (suc n) = pairs_below l j n ++ Positive l j (Some n) ∷ Negative l j (Some n) ∷ []

abbrev pub term_unknowns : ℕ → ℕ → ℕ → List Unknown
term_unknowns v l j = pairs_below l j v ++ Positive l j None ∷ Negative l j None ∷ []

-- those of the first terms at a location
abbrev pub local_unknowns : ℕ → ℕ → ℕ → List Unknown
local_unknowns v l zero = []
local_unknowns v l (suc j) = local_unknowns v l j ++ term_unknowns v l j

-- those of all terms at the first locations at which a way starts or ends
abbrev pub terms_below : (ℕ → Way) → ℕ → ℕ → ℕ → ℕ → List Unknown
terms_below ways many d v zero = []
terms_below ways many d v (suc l) =
    terms_below ways many d v l ++ (if touches ways many l then local_unknowns v l d else [])

-- the multipliers of an identity, one for each row that is met, and its slack
abbrev pub multipliers_below : Identity → ℕ → List Unknown
multipliers_below id zero = []
multipliers_below id (suc i) = multipliers_below id i ++ Multiplier id i ∷ []

abbrev pub identity_unknowns : Identity → Way → List Unknown
identity_unknowns id w = multipliers_below id (length (met_rows w)) ++ Slack id ∷ []

-- those of the first identities of a way
abbrev pub way_unknowns : ℕ → Way → ℕ → List Unknown
way_unknowns k w zero = []
way_unknowns k w (suc i) = way_unknowns k w i ++ identity_unknowns (identity k i) w

abbrev pub steps_below : (ℕ → Way) → ℕ → ℕ → List Unknown
steps_below ways d zero = []
steps_below ways d (suc k) = steps_below ways d k ++ way_unknowns k (ways k) (suc d)

abbrev pub unknowns : (ℕ → Way) → ℕ → ℕ → ℕ → ℕ → List Unknown
unknowns ways many d v locations = terms_below ways many d v locations ++ steps_below ways d many

-- ---- the rows in their order
abbrev pub columns_below : Identity → ℕ → List Line
columns_below id zero = []
columns_below id (suc j) = columns_below id j ++ line id (Some j) ∷ []

-- and then that of the constant
abbrev pub lines_over : Identity → ℕ → List Line
lines_over id n = columns_below id n ++ line id None ∷ []

abbrev pub identity_lines : ℕ → Identity → Way → List Line
identity_lines v id w = lines_over id (v + w.taken.draws)

-- those of the first identities of a way
abbrev pub way_lines : ℕ → ℕ → Way → ℕ → List Line
way_lines v k w zero = []
way_lines v k w (suc i) = way_lines v k w i ++ identity_lines v (identity k i) w

abbrev pub lines : (ℕ → Way) → ℕ → ℕ → ℕ → List Line
lines ways d v zero = []
lines ways d v (suc k) = lines ways d v k ++ way_lines v k (ways k) (suc d)

-- the entries, row by row
abbrev pub entry_rows : (ℕ → Way) → List Unknown → List Line → List ℤ
entry_rows ways us ls = flat_map (λ row. map (entry ways row) us) ls

-- a system of these unknowns and rows
abbrev pub system_over : (ℕ → Way) → ℕ → List Unknown → List Line → Equations
system_over ways d us ls = record {
  rows = length ls;
  columns = length us;
  entries = entry_rows ways us ls;
  right = map (λ row. right_of d row.identity row.column) ls;
}

-- The nested system of the first ways over v variables, with d terms f_0 to f_(d - 1) at each location. For
-- each way, and each i below d, the term f_i where it ends, less f_i and f_(i - 1) where it starts, and 1 more, is the sum of the
-- rows that are met, each times a multiplier, less a slack; and the opposite of the last term where the way starts is such a sum. All
-- unknowns are at least 0.
abbrev pub nested_system : (ℕ → Way) → ℕ → ℕ → ℕ → ℕ → Equations
nested_system ways many d v locations = system_over ways d (unknowns ways many d v locations) (lines ways d v many)

use Rattle.std.specs.Prelude.{ℕ, zero, suc, ◌+◌, List, [], ◌∷◌, ◌++◌, length, map, get_or, ℤ, pos, neg_ℤ, ◌-ℤ◌, Option, None, Some, Bool, true, false, ◌==◌, if◌then◌else◌}
use Rattle.std.specs.List.{flat_map}
use Rattle.tv_linear.specs.Linear.{linear}
use Rattle.tv_linear.specs.Known.{Term, kept, put, number}
use Rattle.tv_linear.specs.Terms.{update_of}
use Rattle.tv_simplex.specs.Systems.{Equations}
use Rattle.tv_rank.specs.declared.unknown.Identity.{Identity}
use Rattle.tv_rank.specs.declared.unknown.Identity.TheVariants.{Step, Bound}
use Rattle.tv_rank.specs.declared.unknown.Unknown.{Unknown}
use Rattle.tv_rank.specs.declared.unknown.Unknown.TheVariants.{Positive, Negative, Multiplier, Slack}
use Rattle.tv_rank.specs.declared.unknown.Line.{Line}
use Rattle.tv_cases.specs.LinearCases.{LinearCase}
use Rattle.tv_rank.specs.Ways.{Way, met_rows, touches}

-- A column is that of a variable or of a draw, or of the constant, which has no number. So is a number of a term.

-- 1 where the two are the same, else 0
abbrev pub unit_at : Option ℕ → Option ℕ → ℤ
unit_at None None = pos 1
unit_at None (Some j) = pos 0
unit_at (Some v) None = pos 0
unit_at (Some v) (Some j) = if v == j then pos 1 else pos 0

abbrev pub number_of : Option ℕ → Term → ℤ
number_of column (kept v) = unit_at (Some v) column
number_of column (put r) = number column r

-- what a number of a term stands before, after a case is taken, in a column
abbrev pub after : LinearCase → Option ℕ → Option ℕ → ℤ
after c None column = unit_at None column
after c (Some v) column = number_of column (update_of c.updates v)

-- how often a number of the term at a location stands in a column: after the case, and before it
abbrev pub entered : LinearCase → ℕ → Option ℕ → Option ℕ → ℤ
entered c l n column = if c.to == l then after c n column else pos 0

abbrev pub left : LinearCase → ℕ → Option ℕ → Option ℕ → ℤ
left c l n column = if c.from == l then unit_at n column else pos 0

-- whether two identities are the same
abbrev pub same : Identity → Identity → Bool
same (Step k) (Step m) = k == m
same (Step k) Bound = false
same Bound (Step m) = false
same Bound Bound = true

-- the place of the way that an identity speaks of
abbrev pub place_of : ℕ → Identity → ℕ
place_of falling (Step k) = k
place_of falling Bound = falling

-- a number of a term in an identity: that of the step is the term after the case less the term before it, and that of the
-- bound is the opposite of the term before it
abbrev pub term_entry : LinearCase → ℕ → Option ℕ → Identity → Option ℕ → ℤ
term_entry c l n (Step k) column = entered c l n column -ℤ left c l n column
term_entry c l n Bound column = neg_ℤ (left c l n column)

-- The number of an unknown in a row of the system, which speaks of a way: the left side of the identity less its right side.
abbrev pub entry_of_way : Way → Line → Unknown → ℤ
entry_of_way w line (Positive l n) = term_entry w.taken l n line.identity line.column
entry_of_way w line (Negative l n) = neg_ℤ (term_entry w.taken l n line.identity line.column)
entry_of_way w line (Multiplier id i) =
    if same id line.identity then neg_ℤ (number line.column (get_or (met_rows w) i (linear [] (pos 0)))) else pos 0
entry_of_way w line (Slack id) = if same id line.identity then unit_at None line.column else pos 0

abbrev pub entry : (ℕ → Way) → ℕ → Line → Unknown → ℤ
entry ways falling line unknown = entry_of_way (ways (place_of falling line.identity)) line unknown

-- the right side: the falling way falls by 1
abbrev pub right_of : ℕ → Identity → Option ℕ → ℤ
right_of falling (Step k) None = if k == falling then neg_ℤ (pos 1) else pos 0
right_of falling (Step k) (Some j) = pos 0
right_of falling Bound column = pos 0

-- ---- the unknowns in their order
-- the numbers of the term at a location, each as a positive part less a negative part, the constant last
abbrev pub pairs_below : ℕ → ℕ → List Unknown
pairs_below l zero = []
pairs_below l (suc n) = pairs_below l n ++ Positive l (Some n) ∷ Negative l (Some n) ∷ []

abbrev pub term_unknowns : ℕ → ℕ → List Unknown
term_unknowns v l = pairs_below l v ++ Positive l None ∷ Negative l None ∷ []

-- those of the first locations at which a way starts or ends
abbrev pub terms_below : (ℕ → Way) → ℕ → ℕ → ℕ → List Unknown
terms_below ways many v zero = []
terms_below ways many v (suc l) =
    terms_below ways many v l ++ (if touches ways many l then term_unknowns v l else [])

-- the multipliers of an identity, one for each row that is met, and its slack
abbrev pub multipliers_below : Identity → ℕ → List Unknown
multipliers_below id zero = []
multipliers_below id (suc i) = multipliers_below id i ++ Multiplier id i ∷ []

abbrev pub identity_unknowns : Identity → Way → List Unknown
identity_unknowns id w = multipliers_below id (length (met_rows w)) ++ Slack id ∷ []

abbrev pub steps_below : (ℕ → Way) → ℕ → List Unknown
steps_below ways zero = []
steps_below ways (suc k) = steps_below ways k ++ identity_unknowns (Step k) (ways k)

abbrev pub unknowns : (ℕ → Way) → ℕ → ℕ → ℕ → ℕ → List Unknown
unknowns ways many falling v locations =
    terms_below ways many v locations ++ steps_below ways many ++ identity_unknowns Bound (ways falling)

-- ---- the rows in their order
abbrev pub columns_below : Identity → ℕ → List Line
columns_below id zero = []
columns_below id (suc j) = columns_below id j ++ record { identity = id; column = Some j } ∷ []

-- and then that of the constant
abbrev pub lines_over : Identity → ℕ → List Line
lines_over id n = columns_below id n ++ record { identity = id; column = None } ∷ []

abbrev pub identity_lines : ℕ → Identity → Way → List Line
identity_lines v id w = lines_over id (v + w.taken.draws)

abbrev pub step_lines : (ℕ → Way) → ℕ → ℕ → List Line
step_lines ways v zero = []
step_lines ways v (suc k) = step_lines ways v k ++ identity_lines v (Step k) (ways k)

abbrev pub lines : (ℕ → Way) → ℕ → ℕ → ℕ → List Line
lines ways many falling v = step_lines ways v many ++ identity_lines v Bound (ways falling)

-- the entries, row by row
abbrev pub entry_rows : (ℕ → Way) → ℕ → List Unknown → List Line → List ℤ
entry_rows ways falling us ls = flat_map (λ line. map (entry ways falling line) us) ls

-- a system of these unknowns and rows
abbrev pub system_over : (ℕ → Way) → ℕ → List Unknown → List Line → Equations
system_over ways falling us ls = record {
  rows = length ls;
  columns = length us;
  entries = entry_rows ways falling us ls;
  right = map (λ line. right_of falling line.identity line.column) ls;
}

-- The ranking system of the first `many` ways over v variables and `locations` locations. The way at place `falling` falls. For each
-- way the term where it ends, less the term where it starts, and 1 more for the falling way, is the sum of the rows that are
-- met, each times a multiplier, less a slack; and for the falling way the opposite of the term where it starts is such a
-- sum. All unknowns are at least 0.
abbrev pub ranking_system : (ℕ → Way) → ℕ → ℕ → ℕ → ℕ → Equations
ranking_system ways many falling v locations = system_over ways falling (unknowns ways many falling v locations) (lines ways many falling v)

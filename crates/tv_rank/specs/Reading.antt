use Rattle.std.specs.Prelude.{◌≡◌, ℕ, zero, suc, ◌+◌, ◌*◌, List, [], ◌∷◌, ◌++◌, length, get_or, ℤ, pos, ◌-ℤ◌, if◌then◌else◌}
use Rattle.tv_linear.specs.Linear.{Linear, linear}
use Rattle.tv_linear.specs.Arithmetic.{constant_row}
use Rattle.tv_rank.specs.Ways.{Way, met_rows, touches}
use Rattle.tv_rank.specs.RankingSystem.{terms_below, steps_below}
use Rattle.tv_rank.specs.declared.found.LocalTerm.{LocalTerm}
use Rattle.tv_rank.specs.declared.question.Question.{Question}
use Rattle.tv_rank.specs.declared.found.Found.{Found}
use Rattle.tv_rank.specs.declared.found.Found.TheVariants as found
use Rattle.tv_rank.specs.Given.{lists}
use Rattle.tv_rank.specs.Questions.{ways_of, many_of, terms_until}

-- a number of a term: its positive part less its negative part, which stand in pairs from a place on
abbrev pub difference : List ℤ → ℕ → ℕ → ℤ
difference xs s j = get_or xs (s + 2 * j) (pos 0) -ℤ get_or xs (s + 2 * j + 1) (pos 0)

abbrev pub differences : List ℤ → ℕ → ℕ → List ℤ
differences xs s zero = []
differences xs s (suc j) = differences xs s j ++ difference xs s j ∷ []

-- the term over v variables whose pairs stand from a place on
abbrev pub term_read : ℕ → List ℤ → ℕ → Linear
term_read v xs s = linear (differences xs s v) (difference xs s v)

-- the term at a location, which is 0 where no way starts or ends
abbrev pub read_at : (ℕ → Way) → ℕ → ℕ → List ℤ → ℕ → Linear
read_at ways many v xs l =
    if touches ways many l then term_read v xs (length (terms_below ways many v l)) else constant_row v (pos 0)

-- the terms at the first locations, for those where a way starts or ends
abbrev pub term_there : (ℕ → Way) → ℕ → ℕ → List ℤ → ℕ → List LocalTerm
term_there ways many v xs l =
    if touches ways many l then record { location = l; row = term_read v xs (length (terms_below ways many v l)) } ∷ [] else []

abbrev pub terms_read : (ℕ → Way) → ℕ → ℕ → List ℤ → ℕ → List LocalTerm
terms_read ways many v xs zero = []
terms_read ways many v xs (suc l) = terms_read ways many v xs l ++ term_there ways many v xs l

-- the multipliers that stand from a place on, and 1 for the denial of what they show
abbrev pub multipliers_read : List ℤ → ℕ → ℕ → List ℤ
multipliers_read xs s zero = []
multipliers_read xs s (suc i) = multipliers_read xs s i ++ get_or xs (s + i) (pos 0) ∷ []

abbrev pub line_read : List ℤ → ℕ → Way → List ℤ
line_read xs s w = multipliers_read xs s (length (met_rows w)) ++ pos 1 ∷ []

abbrev pub lines_read : (ℕ → Way) → List ℤ → ℕ → ℕ → List (List ℤ)
lines_read ways xs s zero = []
lines_read ways xs s (suc k) = lines_read ways xs s k ++ line_read xs (s + length (steps_below ways k)) (ways k) ∷ []

abbrev pub all_read : (ℕ → Way) → ℕ → ℕ → List ℤ → ℕ → List (List ℤ)
all_read ways many falling xs s = lines_read ways xs s many ++ line_read xs (s + length (steps_below ways many)) (ways falling) ∷ []

-- the terms of a question
abbrev pub local_read : Question → List ℤ → ℕ → List LocalTerm
local_read q xs l = term_there (ways_of q) (many_of q) q.variables xs l

abbrev pub terms_of : Question → List ℤ → List LocalTerm
terms_of q xs = terms_read (ways_of q) (many_of q) q.variables xs q.locations

abbrev pub lists_of : Question → List ℤ → List (List ℤ)
lists_of q xs = all_read (ways_of q) (many_of q) q.falling xs (length (terms_until q q.locations))

-- a family is read off these values
abbrev pub IsReadFrom : Question → List ℤ → Found → Type 0
IsReadFrom q xs (found.Family terms multipliers) = (terms.items ≡ terms_of q xs) × (lists multipliers.items ≡ lists_of q xs)
IsReadFrom q xs (found.None barrier) = ⊥

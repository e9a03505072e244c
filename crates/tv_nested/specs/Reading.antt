-- What is read off a solution of the nested system.
use Rattle.std.specs.Prelude.{ℕ, zero, suc, ◌+◌, ◌*◌, List, [], ◌∷◌, ◌++◌, length, map, ℤ, pos, Vec, if◌then◌else◌}
use Rattle.std.specs.Global.{Global}
use Rattle.tv_linear.specs.Linear.{Linear}
use Rattle.tv_linear.specs.Arithmetic.{constant_row}
use Rattle.tv_rank.specs.Given.{lists}
use Rattle.tv_rank.specs.Reading.{term_read, line_read}
use Rattle.tv_rank.specs.Ways.{Way, met_rows, touches}
use Rattle.tv_rank.specs.declared.found.LocalTerm.{LocalTerm}
use Rattle.tv_nested.specs.NestedSystem.{terms_below, steps_below}

-- where the pairs of the term with a number begin at a location
abbrev pub term_place : (ℕ → Way) → ℕ → ℕ → ℕ → ℕ → ℕ → ℕ
term_place ways many d v j l = length (terms_below ways many d v l) + j * (2 * v + 2)

-- the term with a number at a location, which is 0 where no way starts or ends
abbrev pub read_at : (ℕ → Way) → ℕ → ℕ → ℕ → List ℤ → ℕ → ℕ → Linear
read_at ways many d v xs j l =
    if touches ways many l then term_read v xs (term_place ways many d v j l) else constant_row v (pos 0)

-- the terms with a number at the first locations, for those where a way starts or ends
abbrev pub term_there : (ℕ → Way) → ℕ → ℕ → ℕ → List ℤ → ℕ → ℕ → List LocalTerm
term_there ways many d v xs j l =
    if touches ways many l then record { location = l; row = term_read v xs (term_place ways many d v j l) } ∷ [] else []

abbrev pub terms_read : (ℕ → Way) → ℕ → ℕ → ℕ → List ℤ → ℕ → ℕ → List LocalTerm
terms_read ways many d v xs j zero = []
terms_read ways many d v xs j (suc l) = terms_read ways many d v xs j l ++ term_there ways many d v xs j l

-- those with the first numbers
abbrev pub tuple_read : (ℕ → Way) → ℕ → ℕ → ℕ → List ℤ → ℕ → ℕ → List (List LocalTerm)
tuple_read ways many d v xs locations zero = []
tuple_read ways many d v xs locations (suc j) =
    tuple_read ways many d v xs locations j ++ terms_read ways many d v xs j locations ∷ []

-- the multipliers of the first identities of a way, which stand from a place on, each list with 1 for the denial of what it shows
abbrev pub way_read : List ℤ → ℕ → Way → ℕ → List (List ℤ)
way_read xs s w zero = []
way_read xs s w (suc i) = way_read xs s w i ++ line_read xs (s + i * (length (met_rows w) + 1)) w ∷ []

-- those of the first ways
abbrev pub lines_read : (ℕ → Way) → ℕ → List ℤ → ℕ → ℕ → List (List (List ℤ))
lines_read ways d xs s zero = []
lines_read ways d xs s (suc k) =
    lines_read ways d xs s k ++ way_read xs (s + length (steps_below ways d k)) (ways k) (suc d) ∷ []

-- the terms in vectors, and the lists of multipliers in vectors
abbrev pub tuple_of : List (Vec LocalTerm Global) → List (List LocalTerm)
tuple_of terms = map (λ v. v.items) terms

abbrev pub lines_of_cases : List (Vec (Vec ℤ Global) Global) → List (List (List ℤ))
lines_of_cases lines = map (λ v. lists v.items) lines

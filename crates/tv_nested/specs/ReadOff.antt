-- What is read off a solution of a question.
use Rattle.std.specs.Prelude.{ℕ, ◌+◌, List, length, ℤ}
use Rattle.tv_rank.specs.declared.found.LocalTerm.{LocalTerm}
use Rattle.tv_rank.specs.Questions.{ways_of, many_of}
use Rattle.tv_rank.specs.Ways.{met_rows}
use Rattle.tv_nested.specs.declared.solution.Solved.{Solved}
use Rattle.tv_nested.specs.declared.unknown.Unknown.{Unknown}
use Rattle.tv_nested.specs.NestedSystem.{terms_below, steps_below}
use Rattle.tv_nested.specs.Reading.{term_there, terms_read, tuple_read, way_read, lines_read}

-- the unknowns of the terms at the first locations
abbrev pub terms_until : Solved → ℕ → List Unknown
terms_until s l = terms_below (ways_of s.asked.now) (many_of s.asked.now) s.depth s.asked.now.variables l

-- how many numbers stand for an identity of the case at a place
abbrev pub size_at : Solved → ℕ → ℕ
size_at s k = length (met_rows (ways_of s.asked.now k)) + 1

-- the term with a number at a location, where one stands there
abbrev pub there_of : Solved → ℕ → ℕ → List LocalTerm
there_of s j l = term_there (ways_of s.asked.now) (many_of s.asked.now) s.depth s.asked.now.variables s.values.now j l

-- the terms with a number at the first locations
abbrev pub terms_of : Solved → ℕ → ℕ → List LocalTerm
terms_of s j l = terms_read (ways_of s.asked.now) (many_of s.asked.now) s.depth s.asked.now.variables s.values.now j l

-- those with the first numbers
abbrev pub tuple_until : Solved → ℕ → List (List LocalTerm)
tuple_until s j = tuple_read (ways_of s.asked.now) (many_of s.asked.now) s.depth s.asked.now.variables s.values.now s.asked.now.locations j

-- where the multipliers of the case at a place begin
abbrev pub line_place : Solved → ℕ → ℕ
line_place s k = length (terms_until s s.asked.now.locations) + length (steps_below (ways_of s.asked.now) s.depth k)

-- the multipliers of its first identities, and those of the first cases
abbrev pub way_of : Solved → ℕ → ℕ → List (List ℤ)
way_of s k n = way_read s.values.now (line_place s k) (ways_of s.asked.now k) n

abbrev pub lines_until : Solved → ℕ → List (List (List ℤ))
lines_until s k = lines_read (ways_of s.asked.now) s.depth s.values.now (length (terms_until s s.asked.now.locations)) k

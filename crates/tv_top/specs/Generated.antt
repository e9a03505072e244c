-- Programs that are made, and what is written of them.
use Rattle.std.specs.Prelude.{ℕ, zero, suc, ◌+◌, List, [], ◌∷◌, ◌++◌, codes, decimal}

-- where an edge begins, and what comes after it
abbrev pub from_line : ℕ → List ℕ → List ℕ
from_line number behind = codes "FROM: " ++ (decimal number ++ (codes ";" ++ 10 ∷ behind))

-- where it ends
abbrev pub to_line : ℕ → List ℕ
to_line number = codes "TO: " ++ (decimal number ++ (codes ";" ++ 10 ∷ []))

-- the step of the loop at a location
abbrev pub step_lines : ℕ → List ℕ
step_lines number = from_line number (codes "assume(a > 0);" ++ 10 ∷ (codes "a := a - 1;" ++ 10 ∷ to_line number))

-- the way from a loop to the next one, with any number
abbrev pub way_lines : ℕ → List ℕ
way_lines number = from_line number (codes "assume(a <= 0);" ++ 10 ∷ (codes "a := nondet();" ++ 10 ∷ to_line (number + 1)))

-- the loop at a location: its step, and the way to the next one
abbrev pub loop_lines : ℕ → List ℕ
loop_lines number = step_lines number ++ way_lines number

-- n loops, one after the other
abbrev pub loops_lines : ℕ → List ℕ
loops_lines zero = []
loops_lines (suc number) = loops_lines number ++ loop_lines number

-- the text of the program of `loops` loops; each counts down and then draws a number for the next
abbrev pub generated_text : ℕ → List ℕ
generated_text loops = codes "START: 0;" ++ 10 ∷ loops_lines loops

-- a word and a number
abbrev pub number_line : List ℕ → ℕ → List ℕ
number_line word number = word ++ (decimal number ++ 10 ∷ [])

-- how many loops, cases and obligations there are
abbrev pub count_lines : ℕ → ℕ → ℕ → List ℕ
count_lines loops cases obligations =
    number_line (codes "loops ") loops ++ number_line (codes "cases ") cases ++ number_line (codes "obligations ") obligations

-- Lists of multipliers that are written down.
use Rattle.std.specs.Prelude.{ℕ, zero, suc, ◌-◌, List, [], ◌∷◌, ◌++◌, ℤ, pos}
use Rattle.tv_linear.specs.Arithmetic.{zeros}

-- before the line multipliers of `many` rows: 1 for the one at the place, and 0 for the others
abbrev pub one_before : ℕ → ℕ → List ℤ → List ℤ
one_before many place line = zeros place ++ pos 1 ∷ (zeros (many - place - 1) ++ line)

-- beside `count` rows, 1 for the row at the place and 1 for its denial
abbrev pub own_line : ℕ → ℕ → List ℤ
own_line count place = one_before count place (pos 1 ∷ [])

-- such a line for each of the rows from the place on
abbrev pub own_lines : ℕ → ℕ → ℕ → List (List ℤ)
own_lines count place zero = []
own_lines count place (suc k) = own_line count place ∷ own_lines count (suc place) k

-- before the line multipliers of `many` rows: 1 for the row before a place, where there is one, and 0 for the others
abbrev pub under_line : ℕ → ℕ → List ℤ → List ℤ
under_line many zero line = zeros many ++ line
under_line many (suc place) line = one_before many place line

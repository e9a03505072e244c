use Rattle.std.specs.Prelude.{ℕ, zero, suc, ℤ, pos, neg_ℤ, ◌+ℤ◌, ◌-ℤ◌, ◌*ℤ◌, List, [], ◌∷◌, ◌++◌, map}
use Rattle.tv_linear.specs.Linear.{Linear, linear, columns}

-- n zeros
abbrev pub zeros : ℕ → List ℤ
zeros zero = []
zeros (suc n) = pos 0 ∷ zeros n

-- the row with `more` further columns; it has 0 in each of them
abbrev pub padded_row : ℕ → Linear → Linear
padded_row more r = linear (r.coefficients ++ zeros more) r.constant

-- 1 in the one column and 0 in the others
abbrev pub unit : ℕ → ℕ → List ℤ
unit zero column = []
unit (suc n) zero = pos 1 ∷ zeros n
unit (suc n) (suc column) = pos 0 ∷ unit n column

-- the row of a number
abbrev pub constant_row : ℕ → ℤ → Linear
constant_row n z = linear (zeros n) z

-- the row whose value is the number in one column
abbrev pub column_row : ℕ → ℕ → Linear
column_row n column = linear (unit n column) (pos 0)

-- the sums by place; a number past the end of a list is 0
abbrev pub plus_each : List ℤ → List ℤ → List ℤ
plus_each [] ys = ys
plus_each (x ∷ xs) [] = x ∷ xs
plus_each (x ∷ xs) (y ∷ ys) = (x +ℤ y) ∷ plus_each xs ys

-- the sum of two rows
abbrev pub plus : Linear → Linear → Linear
plus r s = linear (plus_each r.coefficients s.coefficients) (r.constant +ℤ s.constant)

-- the row with each sign turned
abbrev pub opposite : Linear → Linear
opposite r = linear (map neg_ℤ r.coefficients) (neg_ℤ r.constant)

-- the row `1 - r`, which integer points meet exactly where they do not meet r
abbrev pub denial : Linear → Linear
denial r = linear (map neg_ℤ r.coefficients) (pos 1 -ℤ r.constant)

-- each number of the row, times a number
abbrev pub scaled : ℤ → Linear → Linear
scaled z r = linear (map (λ c. z *ℤ c) r.coefficients) (z *ℤ r.constant)

-- the row with a number added to its constant
abbrev pub raised : ℤ → Linear → Linear
raised z r = linear r.coefficients (r.constant +ℤ z)

-- how many columns a list of rows has, which all have as many
abbrev pub width_of : List Linear → ℕ
width_of [] = 0
width_of (r ∷ rows) = columns r

-- the sum of the rows, each times its factor
abbrev pub combined : ℕ → List ℤ → List Linear → Linear
combined n [] rows = constant_row n (pos 0)
combined n (c ∷ cs) [] = constant_row n (pos 0)
combined n (c ∷ cs) (r ∷ rows) = plus (scaled c r) (combined n cs rows)

-- the row with a term put in for each column
abbrev pub composed : Linear → List Linear → Linear
composed r terms = raised r.constant (combined (width_of terms) r.coefficients terms)

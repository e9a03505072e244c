use Rattle.std.specs.Prelude.{ℕ, ◌^◌, ◌-◌, ◌<◌, ℤ, pos, ◌+ℤ◌, ◌*ℤ◌, ◌≤ℤ◌, ◌<ℤ◌, unsigned_abs, List, [], ◌∷◌, All, length, slice_index_or}

-- whole coefficients and a constant: what a row is seen as
pub record Linear : Type 0 where
  pub coefficients : List ℤ
  pub constant : ℤ

-- the row of these numbers
abbrev pub linear : List ℤ → ℤ → Linear
linear cs k = record { coefficients = cs; constant = k }

-- how many coefficients there are; the constant has this number as its column
abbrev pub columns : Linear → ℕ
columns r = length r.coefficients

-- the number at a column; the constant's column is the last
abbrev pub entry : Linear → ℕ → ℤ
entry r column = slice_index_or r.coefficients column r.constant

-- an integer below a power of two in magnitude
abbrev pub IsWithin : ℕ → ℤ → Type 0
IsWithin bits z = unsigned_abs z < 2 ^ bits

-- each number is below 2^62 in magnitude, and the columns are counted by 32 bits
pub record IsNarrow (r : Linear) : Type 0 where
  pub coefficients : All (IsWithin 62) r.coefficients
  pub constant : IsWithin 62 r.constant
  pub bounded : length r.coefficients < 2 ^ 32 - 1

-- the sum of the products, column by column
abbrev pub dot : List ℤ → List ℤ → ℤ
dot [] xs = pos 0
dot (c ∷ cs) [] = pos 0
dot (c ∷ cs) (x ∷ xs) = (c *ℤ x) +ℤ dot cs xs

-- the value of a row at a list of numbers
abbrev pub value : Linear → List ℤ → ℤ
value r xs = dot r.coefficients xs +ℤ r.constant

-- a row is met where its value is at most 0
abbrev pub IsMet : List ℤ → Linear → Type 0
IsMet xs r = value r xs ≤ℤ pos 0

-- the value of a row at the rational point xs / z, times z
abbrev pub scaled_value : Linear → List ℤ → ℤ → ℤ
scaled_value r xs z = dot r.coefficients xs +ℤ (r.constant *ℤ z)

-- the rational point xs / z meets each row
pub record IsScaledPoint (rows : List Linear) (xs : List ℤ) (z : ℤ) : Type 0 where
  pub positive : pos 0 <ℤ z
  pub met : All (λ r. scaled_value r xs z ≤ℤ pos 0) rows

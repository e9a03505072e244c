-- Locations split by the signs of terms.
use Rattle.std.specs.Prelude.{ℕ, zero, suc, List, [], ◌∷◌, ◌++◌, length, map}
use Rattle.tv_linear.specs.Linear.{Linear}
use Rattle.tv_linear.specs.Arithmetic.{opposite, denial}
use Rattle.tv_rank.specs.Rankings.{local_term}
use Rattle.tv_rank.specs.declared.found.LocalTerm.{LocalTerm}

-- the terms at a location, from the first to the last
abbrev pub terms_there : ℕ → List (List LocalTerm) → ℕ → List Linear
terms_there v tuple l = map (λ terms. local_term v terms l) tuple

-- for each of them a row that is met where it is at least 0
abbrev pub signs_there : ℕ → List (List LocalTerm) → ℕ → List Linear
signs_there v tuple l = map opposite (terms_there v tuple l)

-- the rows of a piece: the first rows are denied, and the next is met, where there is one
abbrev pub sign_rows : List Linear → ℕ → List Linear
sign_rows [] q = []
sign_rows (r ∷ signs) zero = r ∷ []
sign_rows (r ∷ signs) (suc q) = denial r ∷ sign_rows signs q

-- the first pieces
abbrev pub first_pieces : List Linear → ℕ → List (List Linear)
first_pieces signs zero = []
first_pieces signs (suc q) = first_pieces signs q ++ sign_rows signs q ∷ []

-- the pieces: one for each row that may be the first to be met, and one where all are denied
abbrev pub sign_pieces : List Linear → List (List Linear)
sign_pieces signs = first_pieces signs (suc (length signs))

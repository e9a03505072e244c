-- Bytes cut at a byte, and put together again.
use Rattle.std.specs.Prelude.{ℕ, List, [], ◌∷◌, ◌++◌, ◌==◌, if◌then◌else◌}

-- the pieces, with a byte more in front of the first
abbrev pub onto : ℕ → List (List ℕ) → List (List ℕ)
onto b [] = (b ∷ []) ∷ []
onto b (p ∷ ps) = (b ∷ p) ∷ ps

-- what stands between the bytes c: one piece more than there are such bytes
unfoldable pub pieces : ℕ → List ℕ → List (List ℕ)
pieces c [] = [] ∷ []
pieces c (b ∷ bs) = if b == c then [] ∷ pieces c bs else onto b (pieces c bs)

-- the pieces after the first one, told the bytes from the one that ends it
abbrev pub behind_piece : ℕ → List ℕ → List (List ℕ)
behind_piece c [] = []
behind_piece c (b ∷ bs) = pieces c bs

-- the pieces with a byte c between them
abbrev pub joined : ℕ → List (List ℕ) → List ℕ
joined c [] = []
joined c (p ∷ []) = p
joined c (p ∷ q ∷ ps) = p ++ c ∷ joined c (q ∷ ps)

-- Pieces by their locations.
use Rattle.std.specs.Prelude.{ℕ, zero, suc, List, [], ◌∷◌, ◌++◌, ◌==◌, if◌then◌else◌}
use Rattle.tv_cert.specs.declared.node.Marked.{Marked}
use Rattle.tv_points.specs.Nodes.{whole_piece}

-- those at the first locations, in order
abbrev pub pieces_below : (ℕ → List Marked) → ℕ → List Marked
pieces_below there zero = []
pieces_below there (suc l) = pieces_below there l ++ there l

-- the piece of all states at a location that is not this one
abbrev pub elsewhere : ℕ → ℕ → ℕ → List Marked
elsewhere n location l = (if l == location then [] else whole_piece n l ∷ [])

use Rattle.std.specs.Prelude.{◌≡◌, ℕ, List, All, Bool, true, false, Contains, ◌==◌}
use Rattle.std.specs.List.{filter}
use Rattle.tv_linear.specs.Linear.{Linear, columns, IsMet}
use Rattle.tv_program.specs.Steps.{State}
use Rattle.tv_cert.specs.declared.node.Mark.{Mark}
use Rattle.tv_cert.specs.declared.node.Mark.TheVariants.{Done, Go}
use Rattle.tv_cert.specs.declared.node.Marked.{Marked}

-- the place and the rows of a piece
abbrev pub place_of : Marked → ℕ
place_of p = p.location

abbrev pub rows_of : Marked → List Linear
rows_of p = p.rows

abbrev pub ranks_of : Marked → List Linear
ranks_of p = p.ranks

abbrev pub is_go : Mark → Bool
is_go Go = true
is_go Done = false

-- whether the states of the piece go on
abbrev pub goes : Marked → Bool
goes p = is_go p.mark

-- the state is in the piece
pub record InMarked (p : Marked) (s : State) : Type 0 where
  pub place : s.location ≡ place_of p
  pub rows : All (IsMet s.values) (rows_of p)

-- the state is in some piece of the list
pub record InPieces (ps : List Marked) (s : State) : Type 0 where
  pub piece : Marked
  pub among : Contains ps piece
  pub inside : InMarked piece s

-- the pieces at a location, in order
abbrev pub pieces_at : List Marked → ℕ → List Marked
pieces_at ps l = filter (λ p. place_of p == l) ps

-- the rows of the pieces are over n variables
abbrev pub AreOver : ℕ → List Marked → Type 0
AreOver n ps = (p : Marked) → Contains ps p → All (λ r. columns r ≡ n) (rows_of p)

-- The pieces of states.
use Rattle.std.specs.Prelude.{ℕ, zero, suc, ◌+◌, ◌-◌, List, [], ◌∷◌, length, Bool, true, false, pos}
use Rattle.tv_linear.specs.Linear.{Linear}
use Rattle.tv_linear.specs.Arithmetic.{constant_row}
use Rattle.tv_cert.specs.MarkedRows.{MarkedRows, marked}
use Rattle.tv_cert.specs.declared.node.Mark.{Mark}
use Rattle.tv_cert.specs.declared.node.Mark.TheVariants.{Done, Go}
use Rattle.tv_points.specs.PointRows.{point_rows}
use Rattle.tv_points.specs.declared.state.State.{State}

-- Where a state is to come to an end, its piece goes on with the number of steps that are left as its rank, and is done where none is;
-- else it goes on without ranks.
abbrev pub rank_rows : ℕ → Bool → ℕ → List Linear
rank_rows n false left = []
rank_rows n true zero = []
rank_rows n true (suc left) = constant_row n (pos (suc left)) ∷ []

abbrev pub mark_of : Bool → ℕ → Mark
mark_of false left = Go
mark_of true zero = Done
mark_of true (suc left) = Go

abbrev pub state_piece : ℕ → Bool → ℕ → State → MarkedRows
state_piece n ends left s = marked s.location n (mark_of ends left) (point_rows s.values.items) (rank_rows n ends left)

-- the pieces of the states of a run, from which as many steps are left as states stand after
abbrev pub state_pieces : ℕ → Bool → List State → List MarkedRows
state_pieces n ends [] = []
state_pieces n ends (s ∷ states) = state_piece n ends (length states) s ∷ state_pieces n ends states

-- the piece of the state at a place
abbrev pub piece_there : ℕ → Bool → List State → ℕ → State → MarkedRows
piece_there n ends states place s = state_piece n ends (length states - (place + 1)) s

-- Steps that lead into the pieces of a region.
use Rattle.std.specs.Prelude.{◌≡◌, ℕ, zero, suc, List, map, slice_get, ℤ, Option, None, Bool, IsTrue, Contains, ◌==◌}
use Rattle.std.specs.List.{filter}
use Rattle.std.specs.Option.{option_map}
use Rattle.tv_linear.specs.Linear.{Linear}
use Rattle.tv_linear.specs.Known.{Known}
use Rattle.tv_linear.specs.Regions.{InPiece}
use Rattle.tv_linear.specs.declared.region.Piece.{Piece}
use Rattle.tv_program.specs.Steps.{State}
use Rattle.tv_cases.specs.LinearCases.{LinearCase, CaseSystem, CaseSteps}
use Rattle.tv_cert.specs.Choices.{drawn_change}

abbrev pub place_of : Piece → ℕ
place_of p = p.location

abbrev pub piece_rows : Piece → List Linear
piece_rows p = p.poly.rows.items

-- the pieces at a location, in order
abbrev pub pieces_at : List Piece → ℕ → List Piece
pieces_at ps l = filter (λ p. place_of p == l) ps

-- what a choice is asked: whether from a location a step leads into one of the pieces; stop says whether a state without a step may stop
pub record Query : Type 0 where
  pub system : CaseSystem
  pub location : ℕ
  pub stop : Bool
  pub pieces : List Piece

-- what a choice owes on entering piece k at the end of a case, with terms for its draws; there are no falls
abbrev pub region_owes : ℕ → List Piece → LinearCase → List Linear → ℕ → ℕ → Option (List Known)
region_owes n ps c draws k zero = option_map (λ p. map (drawn_change n c draws) (piece_rows p)) (slice_get (pieces_at ps c.to) k)
region_owes n ps c draws k (suc j) = None

abbrev pub state : ℕ → List ℤ → State
state l xs = record { location = l; values = xs }

-- some step leads from the state
pub record Leads (system : CaseSystem) (l : ℕ) (xs : List ℤ) : Type 0 where
  pub next : State
  pub step : CaseSteps system (state l xs) next

-- some step leads from the state into a piece
pub record LeadsInto (system : CaseSystem) (l : ℕ) (ps : List Piece) (xs : List ℤ) : Type 0 where
  pub next : State
  pub step : CaseSteps system (state l xs) next
  pub piece : Piece
  pub among : Contains ps piece
  pub inside : InPiece next.location next.values piece

-- no step leads from the state into a piece, and where a state without a step may stop, some step leads somewhere
pub record IsHole (q : Query) (xs : List ℤ) : Type 0 where
  pub none : LeadsInto q.system q.location q.pieces xs → ⊥
  pub some : IsTrue q.stop → Leads q.system q.location xs

-- the state is no hole
abbrev pub IsServed : Query → List ℤ → Type 0
IsServed q xs = IsHole q xs → ⊥

-- the case is from the location, and the piece stands at its end
pub record IsEntry (q : Query) (c : LinearCase) (p : Piece) : Type 0 where
  pub among : Contains q.system.cases c
  pub leaves : c.from ≡ q.location
  pub enters : Contains (pieces_at q.pieces c.to) p

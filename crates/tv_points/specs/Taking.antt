-- What a step owes on entering one piece.
use Rattle.std.specs.Prelude.{◌≡◌, ℕ, ◌^◌, ◌<◌, List, [], ◌∷◌, ◌++◌, length, map, All, ℤ, pos, slice_get, Option, None, Some, ◌&&◌, Bool, true, false}
use Rattle.tv_linear.specs.Linear.{Linear}
use Rattle.tv_linear.specs.Known.{Known, given, less, as_given}
use Rattle.tv_linear.specs.Falls.{zero_row}
use Rattle.tv_linear.specs.ChoiceDepth.{choice_splits}
use Rattle.tv_linear.specs.declared.choice.ChoiceTree.{ChoiceTree}
use Rattle.tv_cases.specs.LinearCases.{LinearCase, CaseSystem}
use Rattle.tv_cases.specs.Systems.{cases_of}
use Rattle.tv_cert.specs.declared.node.Marked.{Marked}
use Rattle.tv_cert.specs.Pieces.{place_of, rows_of, ranks_of, goes, pieces_at}
use Rattle.tv_cert.specs.Targets.{owed_into}
use Rattle.tv_cert.specs.OwesViews.{falls_where}
use Rattle.tv_cert.specs.Choices.{drawn_guards, drawn_change, IsMetChoice}
use Rattle.tv_cert.specs.Shapes.{ChoiceShape}
use Rattle.tv_shape.specs.Narrow.{ChoiceNarrow}
use Rattle.tv_points.specs.declared.state.State.{State}
use Rattle.tv_points.specs.declared.step.Step.{Step}
use Rattle.tv_points.specs.declared.taking.Taking.{Taking}
use Rattle.tv_points.specs.PointRows.{number_rows}
use Rattle.tv_points.specs.Lines.{IsShown, lines_at, IsLineFault}
use Rattle.tv_points.specs.declared.fault.PointFault.{PointFault}
use Rattle.tv_points.specs.StatePieces.{state_piece}
use Rattle.tv_points.specs.States.{IsState, IsStep}

-- the rows of fall 1, from the first rank before to the first one after
abbrev pub fall_list : (Linear → Known) → List Linear → List Linear → List Known
fall_list change [] gs = []
fall_list change (f ∷ fs) [] = []
fall_list change (f ∷ fs) (g ∷ gs) = less (change g) (given f) (pos 1) ∷ less (given zero_row) (given f) (pos 0) ∷ []

abbrev pub fall_owed : Bool → (Linear → Known) → Marked → Marked → List Known
fall_owed true change p q = fall_list change (ranks_of p) (ranks_of q)
fall_owed false change p q = []

-- the number of the fall
abbrev pub fall_number : Bool → ℕ
fall_number true = 1
fall_number false = 0

-- the rows owed on entering the piece q from p
abbrev pub entered_rows : Bool → (Linear → Known) → Marked → Marked → List Known
entered_rows falls change p q = map change (rows_of q) ++ fall_owed (falls && goes q) change p q

-- the rows that the step owes: the guards of the case, and those of the piece
abbrev pub taken_rows : ℕ → LinearCase → List Linear → Bool → Marked → Marked → List Known
taken_rows n c draws falls p q = drawn_guards n c draws ++ entered_rows falls (drawn_change n c draws) p q

-- the rows that the step owes by its case
abbrev pub rows_by : ℕ → Bool → Step → Marked → Marked → Option LinearCase → List Known
rows_by n falls step p q None = []
rows_by n falls step p q (Some c) = taken_rows n c (number_rows n step.draws.items) falls p q

abbrev pub step_rows : CaseSystem → Bool → Step → Marked → Marked → List Known
step_rows about falls step p q = rows_by about.variables falls step p q (slice_get about.cases step.taken)

-- what a choice at p into these pieces owes
abbrev pub choice_owes : ℕ → List Marked → Bool → Marked → LinearCase → List Linear → ℕ → ℕ → Option (List Known)
choice_owes n ps falls p c draws = owed_into ps c.to (drawn_change n c draws) (falls_where falls (drawn_change n c draws) p)

-- a choice without splits that is met at p into these pieces, and has the shape of one, with narrow numbers
pub record IsChosen (about : CaseSystem) (ps : List Marked) (falls : Bool) (p : Marked) (tree : ChoiceTree) : Type 0 where
  pub met : IsMetChoice about.variables about.cases (place_of p) false (choice_owes about.variables ps falls p) (as_given (rows_of p)) tree
  pub shape : ChoiceShape about.variables about.cases (place_of p) false (choice_owes about.variables ps falls p) (length (as_given (rows_of p))) tree
  pub narrow : ChoiceNarrow tree
  pub flat : choice_splits tree ≡ 0

-- the pieces are those of two states, and the step leads from the one to the other, which has fewer steps left where a fall is owed
pub record IsTaking (t : Taking) : Type 0 where
  pub state : IsState (cases_of t.about.now) t.state.now
  pub next : State
  pub enters : IsState (cases_of t.about.now) next
  pub leads : IsStep (cases_of t.about.now) t.state.now t.step.now next
  pub left : ℕ
  pub from : t.from.now ≡ state_piece (cases_of t.about.now).variables t.falls left t.state.now
  pub less : ℕ
  pub into : t.into.now ≡ state_piece (cases_of t.about.now).variables t.falls less next
  pub falling : t.falls ≡ true → less < left
  pub placed : t.place < 2 ^ 32

-- the point where it starts, and the rows that it owes by a case with rows for its draws
abbrev pub taking_point : Taking → List ℤ
taking_point t = t.state.now.values.items

abbrev pub case_rows : Taking → LinearCase → List Linear → List Known
case_rows t c draws = taken_rows (cases_of t.about.now).variables c draws t.falls t.from.now t.into.now

-- the piece that is entered stands at its place among the pieces
abbrev pub IsFound : Taking → List Marked → Type 0
IsFound t ps = slice_get (pieces_at ps (place_of t.into.now)) t.place ≡ Some t.into.now

-- the rows that it owes
abbrev pub owed_rows : Taking → List Known
owed_rows t = step_rows (cases_of t.about.now) t.falls t.step.now t.from.now t.into.now

-- the choice takes the step: each line is shown, and among any pieces where the one that is entered stands at its place it is met
pub record IsTakenBy (t : Taking) (tree : ChoiceTree) : Type 0 where
  pub shown : All IsShown (lines_at t.state.now.values.items (owed_rows t))
  pub chosen : (ps : List Marked) → IsFound t ps → IsChosen (cases_of t.about.now) ps t.falls t.from.now tree

-- the first line that does not fit, or want of memory
pub record IsRefusedBy (t : Taking) (x : PointFault) : Type 0 where
  pub lines : IsLineFault (lines_at t.state.now.values.items (owed_rows t)) x

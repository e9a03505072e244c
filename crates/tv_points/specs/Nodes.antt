-- Nodes whose parts are told.
use Rattle.std.specs.Prelude.{◌≡◌, ℕ, List, [], ◌∷◌, ◌++◌, drop, length, map, All, ℤ, Bool, true, false, slice_get, Some}
use Rattle.std.specs.List.{AllZip}
use Rattle.tv_linear.specs.Linear.{IsWithin, IsMet}
use Rattle.tv_linear.specs.declared.cover.CoverTree.{CoverTree}
use Rattle.tv_linear.specs.declared.cover.CoverTree as cover
use Rattle.tv_formula.specs.declared.tree.Path.TheVariants.{Any}
use Rattle.tv_formula.specs.declared.tree.Shape.TheVariants.{Strong}
use Rattle.tv_formula.specs.Properties.{Property, truth, at, term, negated, fix}
use Rattle.tv_cases.specs.LinearCases.{CaseSystem}
use Rattle.tv_cases.specs.Systems.{cases_of}
use Rattle.tv_cert.specs.declared.node.Marked.{Marked}
use Rattle.tv_cert.specs.declared.node.Proof.{Proof}
use Rattle.tv_cert.specs.declared.node.Proof.TheVariants.{Covered, Chosen}
use Rattle.tv_cert.specs.declared.node.Node.{Node}
use Rattle.tv_cert.specs.declared.node.Mark.TheVariants.{Go}
use Rattle.tv_cert.specs.declared.node.Verdict.{Verdict}
use Rattle.tv_cert.specs.declared.node.Verdict.TheVariants.{Proved, Disproved}
use Rattle.tv_cert.specs.Claims.{about_with}
use Rattle.tv_cert.specs.MarkedRows.{MarkedRows, marked}
use Rattle.tv_cert.specs.Nodes.{pieces_of, obligations}
use Rattle.tv_cert.specs.Obligations.{AllMet}
use Rattle.tv_cert.specs.Pieces.{rows_of, goes, pieces_at}
use Rattle.tv_shape.specs.Certificates.{IsOf}
use Rattle.tv_shape.specs.declared.certificate.Certificate.{Certificate}
use Rattle.tv_shape.specs.Made.{HasOwn, IsFitted}
use Rattle.tv_points.specs.StatePieces.{state_pieces}
use Rattle.tv_points.specs.Lines.{Line, IsShown}
use Rattle.tv_points.specs.RunLines.{step_lines, run_lines}
use Rattle.tv_points.specs.Taking.{IsChosen}
use Rattle.tv_points.specs.States.{AreStates, AreSteps, AreInOrder}
use Rattle.tv_points.specs.declared.state.State.{State}
use Rattle.tv_points.specs.declared.step.Step.{Step}
use Rattle.tv_points.specs.declared.steps.Run.{Run}

-- ---- proofs

-- the proof is such a choice at the piece
abbrev pub IsChosenAt : CaseSystem → List Marked → Bool → Marked → Proof → Type 0
IsChosenAt about ps falls p (Covered tree) = ⊥
IsChosenAt about ps falls p (Chosen tree) = IsChosen about ps falls p tree

-- the cover leads into a first target, by no fall, with nothing to be shown
abbrev pub IsBareCover : CoverTree → Type 0
IsBareCover (cover.Split' r p a q b) = ⊥
IsBareCover (cover.Empty ms) = ⊥
IsBareCover (cover.Into target fall ls) = (target ≡ 0) × (fall ≡ 0) × (ls.items ≡ [])

abbrev pub IsBare : Proof → Type 0
IsBare (Covered tree) = IsBareCover tree
IsBare (Chosen tree) = ⊥

-- the second proof at a piece of a run that is to come to an end: where it goes on the choice, and else another such cover
abbrev pub IsSecond : CaseSystem → List Marked → Marked → Bool → Proof → Type 0
IsSecond about ps p true x = IsChosenAt about ps true p x
IsSecond about ps p false x = IsBare x

-- two proofs for each of the pieces of such a run
abbrev pub AreTwo : CaseSystem → List Marked → List Marked → List Proof → Type 0
AreTwo about ps [] [] = Unit {0}
AreTwo about ps [] (x ∷ proofs) = ⊥
AreTwo about ps (p ∷ qs) [] = ⊥
AreTwo about ps (p ∷ qs) (x ∷ []) = ⊥
AreTwo about ps (p ∷ qs) (x ∷ y ∷ proofs) = IsBare x × IsSecond about ps p (goes p) y × AreTwo about ps qs proofs

-- ---- nodes of all states at some locations

abbrev pub whole_piece : ℕ → ℕ → MarkedRows
whole_piece n l = marked l n Go [] []

-- the pieces of all states where these states are
abbrev pub whole_pieces : ℕ → List State → List MarkedRows
whole_pieces n states = map (λ s. whole_piece n s.location) states

-- a node of such pieces, each with such a cover
pub record IsWholeNode (node : Node) (pieces : List Marked) : Type 0 where
  pub proofs : List Proof
  pub own : HasOwn node pieces 0 [] proofs
  pub bare : AllZip (λ (p : Marked) x. IsBare x) pieces proofs

-- ---- what is made of a run

-- no run ends
abbrev pub endless : Property
endless = negated term

-- some run comes to the location
abbrev pub reaches : ℕ → Property
reaches l = fix Any Strong (at l) (truth true)

-- the node shows the formula, from each of the states of a run
pub record IsRunNode (about : CaseSystem) (f : Property) (ends : Bool) (states : List State) (node : Node) : Type 0 where
  pub fitted : IsFitted (about_with about) f 1 node
  pub pieces : pieces_of node ≡ state_pieces about.variables ends states

-- the values, below 2^62 in magnitude, are an initial state in the piece at this place of those at the start
pub record IsInside (about : CaseSystem) (ps : List Marked) (place : ℕ) (values : List ℤ) : Type 0 where
  pub many : length values ≡ about.variables
  pub narrow : All (IsWithin 62) values
  pub piece : Marked
  pub found : slice_get (pieces_at ps about.start) place ≡ Some piece
  pub met : All (IsMet values) (rows_of piece)

abbrev pub SaysDisproved : List ℤ → Verdict → Type 0
SaysDisproved values (Proved tree) = ⊥
SaysDisproved values (Disproved k xs) = xs.items ≡ values

-- the certificate shows the formula, it says that its negation is disproved at these values, and all its obligations are met
pub record IsDisproof (about : CaseSystem) (f : Property) (values : List ℤ) (c : Certificate) : Type 0 where
  pub of : IsOf (about_with about) f c
  pub said : SaysDisproved values c.verdict
  pub met : AllMet (obligations (about_with about) f c.root c.verdict)

-- such a cover was pushed for each of the pieces
pub record ArePushedBare (pieces : List Marked) (old new : List Proof) : Type 0 where
  pub more : List Proof
  pub parts : new ≡ old ++ more
  pub each : AllZip (λ (p : Marked) x. IsBare x) pieces more

-- ---- a run whose pieces are made

-- the pieces are those of the states, and a step from each place to another that is less where it is to come to an end
pub record IsRunMade (run : Run) : Type 0 where
  pub states : AreStates (cases_of run.about.now) run.states.now
  pub pieces : run.pieces.now ≡ state_pieces (cases_of run.about.now).variables run.ends run.states.now

-- the steps are those of the run from this place on, in order where it is to come to an end
pub record AreStepsOf (run : Run) (place : ℕ) (steps : List Step) : Type 0 where
  pub made : IsRunMade run
  pub leads : AreSteps (cases_of run.about.now) run.states.now place steps
  pub in_order : run.ends ≡ true → AreInOrder place steps

-- the lines of a step of the run, and of those of a list
abbrev pub lines_of_step : Run → ℕ → Step → List Line
lines_of_step run place step = step_lines (cases_of run.about.now) run.ends run.states.now place step

abbrev pub lines_of_steps : Run → ℕ → List Step → List Line
lines_of_steps run place steps = run_lines (cases_of run.about.now) run.ends run.states.now place steps

-- the proof is the choice of the step at the piece at the place, and each of its lines is shown
pub record IsStepProof (run : Run) (place : ℕ) (step : Step) (x : Proof) : Type 0 where
  pub shown : All IsShown (lines_of_step run place step)
  pub chosen : (p : Marked) → slice_get run.pieces.now place ≡ Some p → IsChosenAt (cases_of run.about.now) run.pieces.now run.ends p x

-- from the place on a choice was pushed for each of the pieces
pub record AreChoicesPushed (run : Run) (place : ℕ) (old new : List Proof) : Type 0 where
  pub more : List Proof
  pub parts : new ≡ old ++ more
  pub each : AllZip (IsChosenAt (cases_of run.about.now) run.pieces.now run.ends) (drop place run.pieces.now) more

-- from the place on two proofs were pushed for each of the pieces
pub record AreTwoPushed (run : Run) (place : ℕ) (old new : List Proof) : Type 0 where
  pub more : List Proof
  pub parts : new ≡ old ++ more
  pub each : AreTwo (cases_of run.about.now) run.pieces.now (drop place run.pieces.now) more

-- the nodes of the arguments of a run that comes to a location
pub record AreEnds (n : ℕ) (states : List State) (location : ℕ) (nodes : List Node) : Type 0 where
  pub end : Node
  pub truth_of : Node
  pub parts : nodes ≡ end ∷ truth_of ∷ []
  pub end_is : IsWholeNode end (whole_piece n location ∷ [])
  pub truth_is : IsWholeNode truth_of (whole_pieces n states)

-- the certificate shows the formula, and says that its negation is disproved at the first of the states
abbrev pub DisprovesFirst : CaseSystem → Property → List State → Certificate → Type 0
DisprovesFirst about f states c = (s : State) → slice_get states 0 ≡ Some s → IsDisproof about f s.values.items c

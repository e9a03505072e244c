-- One step along a run, as the code makes it.
use Rattle.std.specs.Prelude.{◌≡◌, ◌++◌, ℕ, ℤ, List, length, map, All, slice_get, Bool, false, Some, Ok, Vec}
use Rattle.std.specs.Global.{Global}
use Rattle.tv_linear.specs.declared.choice.ChoiceTree.{ChoiceTree, Take}
use Rattle.tv_linear.specs.Known.{term_value}
use Rattle.tv_linear.specs.Linear.{Linear, IsMet}
use Rattle.tv_linear.specs.Terms.{terms_after}
use Rattle.tv_program.specs.Runs.{follow}
use Rattle.tv_program.specs.Systems.{System}
use Rattle.tv_cases.specs.Answers.{IsOfProgram}
use Rattle.tv_cases.specs.LinearCases.{LinearCase, CaseSystem}
use Rattle.tv_cases.specs.ProgramCases.{linear_cases}
use Rattle.tv_cert.specs.declared.node.Marked.{Marked}
use Rattle.tv_cert.specs.declared.node.Proof.{Proof}
use Rattle.tv_cert.specs.declared.node.Proof.TheVariants.{Chosen}
use Rattle.tv_sound.specs.Following.{Spot, TakesAt, chosen_at, offered_at, onward}
use Rattle.tv_trace.specs.declared.shown.Shown.{Shown}
use Rattle.tv_trace.specs.declared.shown.TraceFault.{TraceFault}
use Rattle.tv_trace.specs.declared.shown.TraceFault.TheVariants as fault
use Rattle.tv_trace.specs.declared.fault.StepFault.{StepFault}
use Rattle.tv_trace.specs.declared.fault.StepFault.TheVariants.{Wide, Memory}
use Rattle.tv_trace.specs.Tracing.{state_of}
use Rattle.tv_trace.specs.Widths.{values_drawn}

-- the fault of a step, where this says whether its numbers are held
abbrev pub IsStepFault : Bool → StepFault → Type 0
IsStepFault held Wide = held ≡ false
IsStepFault held Memory = Unit {0}

-- the cases are those of the program
pub record AreCasesOf (p : System) (system : CaseSystem) : Type 0 where
  pub of_program : IsOfProgram p system
  pub cases : linear_cases p ≡ Ok system.cases

-- the choice takes this at these values
pub record Ends (proof : Proof) (xs : List ℤ) : Type 0 where
  pub tree : ChoiceTree
  pub chosen : proof ≡ Chosen tree
  pub number : ℕ
  pub target : ℕ
  pub fall : ℕ
  pub draws : Vec Linear Global
  pub lists : Vec (Vec ℤ Global) Global
  pub ends : chosen_at xs tree ≡ Take number target fall draws lists

-- this case can be taken at these values, with the values of these terms for its draws
pub record IsEnabled (system : CaseSystem) (xs : List ℤ) (number : ℕ) (draws : List Linear) (c : LinearCase) : Type 0 where
  pub is : slice_get system.cases number ≡ Some c
  pub many : length draws ≡ c.draws
  pub wide : length xs ≡ system.variables
  pub guards : All (IsMet (xs ++ values_drawn xs draws)) c.guards

-- the values after it
abbrev pub values_next : CaseSystem → List ℤ → List Linear → LinearCase → List ℤ
values_next system xs draws c = map (term_value (xs ++ values_drawn xs draws)) (terms_after system.variables c.updates)

-- the spot has this proof and this state
pub record IsAt (proof : Proof) (shown : Shown) (here : Spot) : Type 0 where
  pub proof_is : here.proof ≡ proof
  pub state_is : here.state ≡ state_of shown

-- something is taken at each spot along the run
abbrev pub TakesOn : CaseSystem → List (Marked × Proof) → Spot → Type 0
TakesOn system all here = (i : ℕ) → TakesAt system all (follow (onward system all) here i)

-- it is a spot at which something is taken
pub record StandsAt (system : CaseSystem) (all : List (Marked × Proof)) (proof : Proof) (shown : Shown) : Type 0 where
  pub here : Spot
  pub at : IsAt proof shown here
  pub takes : TakesAt system all here

-- it is a spot from which a run is followed: something is taken at each of its spots
pub record IsFollowed (system : CaseSystem) (all : List (Marked × Proof)) (proof : Proof) (shown : Shown) : Type 0 where
  pub here : Spot
  pub at : IsAt proof shown here
  pub takes : TakesOn system all here

-- a run is followed from these values at the start, in the piece that is named of those there
pub record FollowsAt (p : System) (system : CaseSystem) (all : List (Marked × Proof)) (k : ℕ) (values : List ℤ) : Type 0 where
  pub first : Spot
  pub piece : slice_get (offered_at all system.start) k ≡ Some (first.piece, first.proof)
  pub begins : first.state ≡ record { location = p.start; values = values }
  pub takes : TakesOn system all first

-- the fault after these states
abbrev pub IsStop : StepFault → List Shown → TraceFault → Type 0
IsStop Wide all (fault.Wide shown) = shown.items ≡ all
IsStop Wide all fault.Memory = Unit {0}
IsStop Memory all (fault.Wide shown) = ⊥
IsStop Memory all fault.Memory = Unit {0}

-- something is offered at this place of those at the location
abbrev pub IsOffered : List (Marked × Proof) → ℕ → ℕ → Type 0
IsOffered all l k = (o : Marked × Proof) × (slice_get (offered_at all l) k ≡ Some o)

-- this proof is offered there
abbrev pub Offers : List (Marked × Proof) → ℕ → ℕ → Proof → Type 0
Offers all l k proof = (o : Marked × Proof) → slice_get (offered_at all l) k ≡ Some o → o.1 ≡ proof

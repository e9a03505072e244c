-- States of a program, and steps between them.
use Rattle.std.specs.Prelude.{◌≡◌, ℕ, ◌+◌, ◌-◌, ◌^◌, ◌<◌, List, [], ◌∷◌, length, All, Some, slice_get}
use Rattle.tv_linear.specs.Linear.{IsWithin}
use Rattle.tv_program.specs.Steps as programs
use Rattle.tv_cases.specs.LinearCases.{LinearCase, CaseSystem, CaseDoes}
use Rattle.tv_points.specs.declared.state.State.{State}
use Rattle.tv_points.specs.declared.step.Step.{Step}

-- the state of a program that it is
abbrev pub seen : State → programs.State
seen s = record { location = s.location; values = s.values.items }

-- the state has n values, below 2^62 in magnitude
pub record IsPointOf (n : ℕ) (s : State) : Type 0 where
  pub many : length s.values.items ≡ n
  pub narrow : All (IsWithin 62) s.values.items

-- at a location of the program, with a value for each variable, below 2^62 in magnitude
pub record IsState (about : CaseSystem) (s : State) : Type 0 where
  pub place : s.location < about.locations
  pub point : IsPointOf about.variables s

-- the case of the step leads from s to t with its numbers for the draws, which are below 2^62 in magnitude
pub record IsStep (about : CaseSystem) (s : State) (step : Step) (t : State) : Type 0 where
  pub taken : LinearCase
  pub found : slice_get about.cases step.taken ≡ Some taken
  pub does : CaseDoes taken step.draws.items (seen s) (seen t)
  pub narrow : All (IsWithin 62) step.draws.items

-- the step leads from the state at a place to the state that it names
pub record IsStepAt (about : CaseSystem) (states : List State) (place : ℕ) (step : Step) : Type 0 where
  pub before : State
  pub after : State
  pub here : slice_get states place ≡ Some before
  pub there : slice_get states step.next ≡ Some after
  pub leads : IsStep about before step after

-- so do the steps of a list, from this place on
abbrev pub AreSteps : CaseSystem → List State → ℕ → List Step → Type 0
AreSteps about states place [] = Unit {0}
AreSteps about states place (step ∷ steps) = IsStepAt about states place step × AreSteps about states (place + 1) steps

-- each of the steps leads to the state after its own
abbrev pub AreInOrder : ℕ → List Step → Type 0
AreInOrder place [] = Unit {0}
AreInOrder place (step ∷ steps) = (step.next ≡ place + 1) × AreInOrder (place + 1) steps

-- states of a program, few enough to be told by 32 bits
pub record AreStates (about : CaseSystem) (states : List State) : Type 0 where
  pub each : All (IsState about) states
  pub bounded : length states < 2 ^ 32 - 1

-- a step from each of the states leads to one of them
pub record ComesBack (about : CaseSystem) (states : List State) (steps : List Step) : Type 0 where
  pub states_are : AreStates about states
  pub as_many : length steps ≡ length states
  pub leads : AreSteps about states 0 steps

-- A run through the states. The last of them is at the location.
pub record ComesTo (about : CaseSystem) (location : ℕ) (states : List State) (steps : List Step) : Type 0 where
  pub states_are : AreStates about states
  pub as_many : length states ≡ length steps + 1
  pub leads : AreSteps about states 0 steps
  pub in_order : AreInOrder 0 steps
  pub last : State
  pub ends : slice_get states (length steps) ≡ Some last
  pub at : last.location ≡ location

-- the first of the states is an initial state
pub record StartsAt (about : CaseSystem) (states : List State) : Type 0 where
  pub first : State
  pub here : slice_get states 0 ≡ Some first
  pub start : first.location ≡ about.start

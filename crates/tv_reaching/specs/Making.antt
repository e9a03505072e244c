-- Parts of a run that are made.
use Rattle.std.specs.Prelude.{◌≡◌, ℕ, List, ◌∷◌, ◌++◌, map, ℤ, All, Result, MatchResult}
use Rattle.std.specs.Global.{Vec}
use Rattle.tv_linear.specs.Linear.{IsWithin}
use Rattle.tv_program.specs.Steps as programs
use Rattle.tv_cases.specs.LinearCases.{CaseSystem}
use Rattle.tv_points.specs.States.{seen, IsState, AreInOrder}
use Rattle.tv_points.specs.declared.state.State.{State}
use Rattle.tv_points.specs.declared.step.Step.{Step}
use Rattle.tv_points.specs.declared.fault.PointFault.{PointFault}
use Rattle.tv_points.specs.declared.fault.PointFault.TheVariants.{Wide, Memory}
use Rattle.tv_reaching.specs.FoundRuns.{IsAlong, Takes, IsWideAt, IsWideRun}

-- a value is too wide
abbrev pub IsWideValue : List ℤ → PointFault → Type 0
IsWideValue values (Wide column) = IsWideAt column values
IsWideValue values Memory = Unit {0}

-- these are the numbers, and each is below 2^62 in magnitude
pub record AreNumbers (meant numbers : List ℤ) : Type 0 where
  pub same : numbers ≡ meant
  pub narrow : All (IsWithin 62) numbers

abbrev pub GivesNumbers : List ℤ → Result (Vec ℤ) PointFault → Type 0
GivesNumbers meant result = MatchResult result (λ v. AreNumbers meant v.items) (IsWideValue meant)

-- the state is the one that is meant, and one of the program
pub record IsNext (about : CaseSystem) (meant : programs.State) (s : State) : Type 0 where
  pub same : seen s ≡ meant
  pub state : IsState about s

abbrev pub GivesNext : CaseSystem → ℕ → List ℤ → programs.State → Result State PointFault → Type 0
GivesNext about number draws s result =
    (t : programs.State) → Takes about number draws s t → MatchResult result (IsNext about t) (IsWideValue t.values)

-- the case with this number leads on
abbrev pub CanTake : CaseSystem → ℕ → List ℤ → programs.State → Type 0
CanTake about number draws s = (t : programs.State) × Takes about number draws s t

-- so do the cases with these numbers, one after another
abbrev pub CanRun : CaseSystem → List ℕ → List (List ℤ) → programs.State → Type 0
CanRun about path draws s = (run : List programs.State) × IsAlong about path draws s run

-- states that are those that are meant were pushed
pub record ArePushed (about : CaseSystem) (meant : List programs.State) (old new : List State) : Type 0 where
  pub more : List State
  pub parts : new ≡ old ++ more
  pub same : map seen more ≡ meant
  pub each : All (IsState about) more

-- the states of the run, from the first on, or a value that is too wide
abbrev pub GivesStates : {A : Type 0} → CaseSystem → List ℕ → List (List ℤ) → programs.State → List State → List State → Result A PointFault → Type 0
GivesStates about path draws s old new result =
    (run : List programs.State) → IsAlong about path draws s run → MatchResult result (λ _. ArePushed about (s ∷ run) old new) (IsWideRun run)

-- steps by these cases and draws, each to the state after its own, were pushed
pub record AreStepsPushed (path : List ℕ) (draws : List (List ℤ)) (place : ℕ) (old new : List Step) : Type 0 where
  pub more : List Step
  pub parts : new ≡ old ++ more
  pub path_is : map (λ (s : Step). s.taken) more ≡ path
  pub draws_are : map (λ (s : Step). s.draws.items) more ≡ draws
  pub in_order : AreInOrder place more

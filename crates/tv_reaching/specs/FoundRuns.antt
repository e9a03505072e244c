-- Runs that were found.
use Rattle.std.specs.Prelude.{◌≡◌, ◌⊎◌, ℕ, ◌-◌, ◌^◌, ◌<◌, List, [], ◌∷◌, ◌++◌, length, map, ℤ, pos, slice_get, slice_index_or, Some, All, true}
use Rattle.std.specs.Global.{Vec}
use Rattle.tv_linear.specs.Linear.{IsWithin}
use Rattle.tv_program.specs.Steps as programs
use Rattle.tv_program.specs.Runs.{last_of}
use Rattle.tv_cases.specs.LinearCases.{LinearCase, CaseSystem, CaseDoes}
use Rattle.tv_points.specs.States.{seen, IsState, AreInOrder}
use Rattle.tv_points.specs.Lines.{IsLineFault}
use Rattle.tv_points.specs.RunLines.{run_lines}
use Rattle.tv_points.specs.declared.state.State.{State}
use Rattle.tv_points.specs.declared.step.Step.{Step}
use Rattle.tv_points.specs.declared.fault.PointFault.{PointFault}
use Rattle.tv_points.specs.declared.fault.PointFault.TheVariants.{Wide, Memory}
use Rattle.tv_reaching.specs.declared.found.Found.{Found}

-- the state at a location with these values
abbrev pub state_at : ℕ → List ℤ → programs.State
state_at l values = record { location = l; values = values }

-- the case with this number leads from s to t with these draws
pub record Takes (about : CaseSystem) (number : ℕ) (draws : List ℤ) (s t : programs.State) : Type 0 where
  pub taken : LinearCase
  pub found : slice_get about.cases number ≡ Some taken
  pub does : CaseDoes taken draws s t

-- the cases with these numbers lead one after another, each with its draws, from the state to each of the run
abbrev pub IsAlong : CaseSystem → List ℕ → List (List ℤ) → programs.State → List programs.State → Type 0
IsAlong about [] [] s [] = Unit {0}
IsAlong about [] [] s (t ∷ run) = ⊥
IsAlong about [] (ds ∷ draws) s run = ⊥
IsAlong about (k ∷ path) [] s run = ⊥
IsAlong about (k ∷ path) (ds ∷ draws) s [] = ⊥
IsAlong about (k ∷ path) (ds ∷ draws) s (t ∷ run) = Takes about k ds s t × IsAlong about path draws t run

-- the numbers of each list
abbrev pub lists_of : List (Vec ℤ) → List (List ℤ)
lists_of lists = map (λ l. l.items) lists

-- where the run begins
abbrev pub first_state : CaseSystem → Found → programs.State
first_state about found = state_at about.start found.values.now

-- the states of the run after the first
abbrev pub RunsThrough : CaseSystem → Found → List programs.State → Type 0
RunsThrough about found run = IsAlong about found.path.now (lists_of found.draws.now) (first_state about found) run

-- a run from the start to the location, with a value for each variable, whose values at the start and draws are below 2^62 in magnitude
pub record IsFoundRun (about : CaseSystem) (found : Found) : Type 0 where
  pub run : List programs.State
  pub along : RunsThrough about found run
  pub ends : (last_of (first_state about found) run).location ≡ found.location
  pub counted : length found.values.now ≡ about.variables
  pub narrow : All (IsWithin 62) found.values.now
  pub narrow_draws : All (All (IsWithin 62)) (lists_of found.draws.now)
  pub bounded : length found.path.now < 2 ^ 32 - 2

-- the variable with this column is the first with a value of 2^62 or more in magnitude
pub record IsWideAt (column : ℕ) (values : List ℤ) : Type 0 where
  pub inside : column < length values
  pub wide : ¬ IsWithin 62 (slice_index_or values column (pos 0))
  pub earlier : (k : ℕ) → k < column → IsWithin 62 (slice_index_or values k (pos 0))

-- it is so at the first state of the run that has such a value
pub record IsWideOn (column : ℕ) (run : List programs.State) : Type 0 where
  pub before : List programs.State
  pub state : programs.State
  pub after : List programs.State
  pub parts : run ≡ before ++ state ∷ after
  pub narrow : All (λ s. All (IsWithin 62) s.values) before
  pub wide : IsWideAt column state.values

abbrev pub IsWideRun : List programs.State → PointFault → Type 0
IsWideRun run (Wide column) = IsWideOn column run
IsWideRun run Memory = Unit {0}

-- states that are the first state and those of the run, and steps by the cases and draws of the run
pub record AreOf (about : CaseSystem) (found : Found) (run : List programs.State) (states : List State) (steps : List Step) : Type 0 where
  pub states_are : map seen states ≡ first_state about found ∷ run
  pub path : map (λ (s : Step). s.taken) steps ≡ found.path.now
  pub draws : map (λ (s : Step). s.draws.items) steps ≡ lists_of found.draws.now
  pub in_order : AreInOrder 0 steps

-- no value on the run is too wide, and the fault is that of its lines
pub record IsLineFaultOf (about : CaseSystem) (found : Found) (run : List programs.State) (fault : PointFault) : Type 0 where
  pub states : List State
  pub steps : List Step
  pub parts : AreOf about found run states steps
  pub narrow : All (IsState about) states
  pub lines : IsLineFault (run_lines about true states 0 steps) fault

-- a value on the run or a line of the certificate is too wide, the first one at this column
abbrev pub IsRunFault : CaseSystem → Found → PointFault → Type 0
IsRunFault about found fault =
    (run : List programs.State) → RunsThrough about found run → IsWideRun run fault ⊎ IsLineFaultOf about found run fault

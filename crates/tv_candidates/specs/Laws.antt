-- What inductive lists say of runs.
use Rattle.std.specs.Prelude.{◌≡◌, ℕ, List, length, Contains, pos}
use Rattle.tv_linear.specs.Arithmetic.{constant_row}
use Rattle.tv_program.specs.Steps.{State}
use Rattle.tv_cases.specs.LinearCases.{CaseSystem, CaseSteps}
use Rattle.tv_program.specs.Runs.{IsRun, last_of}
use Rattle.tv_candidates.specs.declared.candidate.Candidate.{Candidate}
use Rattle.tv_candidates.specs.Inductive.{MeetsAll, IsPart, IsLargestInductive}
use Rattle.tv_candidates.specs.Offered.{candidate}

-- a run of the cases from a state at the start
pub record IsRunFromStart (about : CaseSystem) (s : State) (run : List State) : Type 0 where
  pub place : s.location ≡ about.start
  pub counted : length s.values ≡ about.variables
  pub steps : IsRun (CaseSteps about) s run

-- the rows hold at the last state of each such run
abbrev pub HoldsOnRuns : CaseSystem → List Candidate → Type 0
HoldsOnRuns about list = (s : State) (run : List State) → IsRunFromStart about s run → MeetsAll list (last_of s run)

-- the list has the row that no point meets, at the location
abbrev pub HasFalseRow : CaseSystem → ℕ → List Candidate → Type 0
HasFalseRow about l list = Contains list (candidate l (constant_row about.variables (pos 1)))

-- no such run ends at the location
abbrev pub IsNeverReached : CaseSystem → ℕ → Type 0
IsNeverReached about l = (s : State) (run : List State) → IsRunFromStart about s run → (last_of s run).location ≡ l → ⊥

-- the greatest inductive part of the longer list has that of the shorter one
abbrev pub KeepsLargest : CaseSystem → List Candidate → List Candidate → Type 0
KeepsLargest about old new = (a b : List Candidate) → IsLargestInductive about old a → IsLargestInductive about new b → IsPart a b

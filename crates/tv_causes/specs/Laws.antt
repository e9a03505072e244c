-- What is proved of the causes.
use Rattle.std.specs.Prelude.{◌≡◌, ℕ, ◌≤◌, List, length, ℤ, Some}
use Rattle.tv_program.specs.Steps.{State}
use Rattle.tv_formula.specs.Properties.{Property}
use Rattle.tv_cases.specs.LinearCases.{CaseSystem, CaseSteps}
use Rattle.tv_program.specs.Runs.{IsRun, last_of}
use Rattle.tv_candidates.specs.declared.candidate.Candidate.{Candidate}
use Rattle.tv_known.specs.Cycles.{IsInitialAt}
use Rattle.tv_known.specs.Subformulas.{IsUnreachable}
use Rattle.tv_causes.specs.Causes.{IsLeftPoint, IsInvariantCause, AreTooManyPaths}

-- where the invariants are sufficient at a location, neither cause comes for its safety
pub record SafetyIsSettled (about : CaseSystem) (f : Property) (rests : List (List Candidate)) (l : ℕ) : Type 0 where
  pub left : (point : List ℤ) → IsLeftPoint about (Some rests) l point → ⊥
  pub invariant : (point : List ℤ) → IsInvariantCause about f (Some rests) l point → ⊥
  pub paths : (budget count : ℕ) → IsUnreachable l f → AreTooManyPaths about f (Some rests) budget count → ⊥

-- where the invariants are reported to be too weak, no short run comes to the location
abbrev pub NoShortRun : CaseSystem → ℕ → Type 0
NoShortRun about l = (s : State) (run : List State) → IsInitialAt about s → IsRun (CaseSteps about) s run → length run ≤ 8 → (last_of s run).location ≡ l → ⊥

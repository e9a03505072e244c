-- States that runs come to.
use Rattle.std.specs.Prelude.{◌≡◌, ℕ, List, ◌++◌, length, ℤ}
use Rattle.std.specs.List.{Contains}
use Rattle.tv_program.specs.Steps.{State}
use Rattle.tv_program.specs.Runs.{last_of}
use Rattle.tv_cases.specs.LinearCases.{CaseSystem}
use Rattle.tv_candidates.specs.declared.candidate.Candidate.{Candidate}
use Rattle.tv_candidates.specs.Inductive.{IsInductive}
use Rattle.tv_candidates.specs.Laws.{IsRunFromStart}
use Rattle.tv_invariant.specs.declared.reached.Reached.{Reached}

-- the state that it is
abbrev pub state_of : Reached → State
state_of r = record { location = r.location; values = r.values.items }

-- a run from a state at the start ends in it
pub record IsReached (about : CaseSystem) (r : Reached) : Type 0 where
  pub first : State
  pub run : List State
  pub from_start : IsRunFromStart about first run
  pub ends : last_of first run ≡ state_of r
  pub counted : length r.values.items ≡ about.variables

-- it is in no inductive list
abbrev pub IsInNone : CaseSystem → Candidate → Type 0
IsInNone about c = (list : List Candidate) → IsInductive about list → Contains list c → ⊥

-- count numbers were put at the end
pub record AreDrawn (count : ℕ) (old new : List ℤ) : Type 0 where
  pub drawn : List ℤ
  pub counted : length drawn ≡ count
  pub parts : new ≡ old ++ drawn

-- What a pass over the cases leaves. A case is open until it is tried, and again when a candidate falls where it leaves.
use Rattle.std.specs.Prelude.{◌≡◌, ◌⊎◌, ℕ, ◌<◌, ◌≤◌, List, length, get_or, All, Bool, true, false, Some}
use Rattle.std.specs.List.{Contains, slice_get}
use Rattle.tv_linear.specs.Linear.{columns}
use Rattle.tv_cases.specs.LinearCases.{LinearCase, CaseSystem}
use Rattle.tv_candidates.specs.declared.candidate.Candidate.{Candidate}
use Rattle.tv_invariant.specs.Falling.{IsLeft, KeptBy}

-- each row has n columns
abbrev pub AreOver : ℕ → List Candidate → Type 0
AreOver n candidates = All (λ c. columns c.row ≡ n) candidates

-- the case keeps each candidate of the list
abbrev pub KeepsAll : ℕ → List Candidate → LinearCase → Type 0
KeepsAll n now case = (c : Candidate) → Contains now c → KeptBy n case now c

-- the case with the number is not open
abbrev pub IsClosed : List Bool → ℕ → Type 0
IsClosed marks k = get_or marks k true ≡ false

-- each case that is not open keeps all candidates
abbrev pub ClosedKeep : CaseSystem → List Candidate → List Bool → Type 0
ClosedKeep about now marks = (k : ℕ) (case : LinearCase) → slice_get about.cases k ≡ Some case → IsClosed marks k → KeepsAll about.variables now case

-- The candidates that are left after some cases were tried, those with numbers below count among them. Where the old ones are left of a
-- list, the new ones are too. Where they are as many, they are the old ones and the cases with numbers below count are closed.
pub record IsPassed (about : CaseSystem) (count : ℕ) (old new : List Candidate) (before after : List Bool) : Type 0 where
  pub left : (list : List Candidate) → IsLeft about list old → IsLeft about list new
  pub shorter : length new ≤ length old
  pub closed : ClosedKeep about old before → ClosedKeep about new after
  pub settled : length old ≤ length new → (new ≡ old) × ((k : ℕ) → k < count → IsClosed after k)

-- the candidates that are left after the case with the number was tried
pub record IsTried (about : CaseSystem) (number : ℕ) (old new : List Candidate) (before after : List Bool) : Type 0 where
  pub left : (list : List Candidate) → IsLeft about list old → IsLeft about list new
  pub shorter : length new ≤ length old
  pub closed : ClosedKeep about old before → ClosedKeep about new after
  pub settled : length old ≤ length new → (new ≡ old) × ((k : ℕ) → IsClosed before k ⊎ (k ≡ number) → IsClosed after k)

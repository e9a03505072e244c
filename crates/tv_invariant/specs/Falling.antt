-- Candidates that are in no inductive part of a list, and those that hold at the start or after a case.
use Rattle.std.specs.Prelude.{◌≡◌, ◌⊎◌, ℕ, ◌+◌, List, [], ◌∷◌, length, ℤ, Ok, Err}
use Rattle.std.specs.List.{Contains}
use Rattle.tv_linear.specs.Linear.{Linear, IsMet}
use Rattle.tv_linear.specs.declared.fault.RowFault.TheVariants as rows
use Rattle.tv_program.specs.Steps.{State}
use Rattle.tv_cases.specs.Before.{GivesBefore}
use Rattle.tv_cases.specs.LinearCases.{LinearCase, CaseSystem, CaseDoes}
use Rattle.tv_farkas.specs.declared.fault.CoverFault.{CoverFault}
use Rattle.tv_farkas.specs.declared.fault.CoverFault.TheVariants.{Splits, Solve, Wide, Memory}
use Rattle.tv_cover.specs.Covering.{IsCoverFault}
use Rattle.tv_candidates.specs.declared.candidate.Candidate.{Candidate}
use Rattle.tv_candidates.specs.Inductive.{MeetsAll, IsInductive, IsPart}
use Rattle.tv_invariant.specs.Sieves.{Sieved}
use Rattle.tv_invariant.specs.Places.{step_rows}

-- it is in no inductive part of the list
abbrev pub IsInNoPart : CaseSystem → List Candidate → Candidate → Type 0
IsInNoPart about list c = (other : List Candidate) → IsPart other list → IsInductive about other → Contains other c → ⊥

-- the second list is the first in order, without candidates that are in no inductive part of it
abbrev pub IsLeft : CaseSystem → List Candidate → List Candidate → Type 0
IsLeft about list now = Sieved (λ c. Unit {0}) (IsInNoPart about list) list now

-- each state at the start meets it
abbrev pub Begins : CaseSystem → Candidate → Type 0
Begins about c = c.location ≡ about.start → (xs : List ℤ) → length xs ≡ about.variables → IsMet xs c.row

-- each state meets it that the case leads to from one that meets the list
abbrev pub KeptBy : ℕ → LinearCase → List Candidate → Candidate → Type 0
KeptBy n case now c = (s t : State) (draws : List ℤ) → length s.values ≡ n → CaseDoes case draws s t → MeetsAll now s → t.location ≡ c.location → IsMet t.values c.row

-- the case leads from a state that meets the list to one that does not meet the candidate
pub record IsFallen (n : ℕ) (case : LinearCase) (now : List Candidate) (c : Candidate) : Type 0 where
  pub old : State
  pub new : State
  pub draws : List ℤ
  pub wide : length old.values ≡ n
  pub does : CaseDoes case draws old new
  pub meets : MeetsAll now old
  pub place : new.location ≡ c.location
  pub unmet : IsMet new.values c.row → ⊥

-- ---- refusals

-- the row before the case was not made: it is too wide at the column
abbrev pub IsUnmade : Linear → LinearCase → CoverFault → Type 0
IsUnmade r case (Splits path) = ⊥
IsUnmade r case (Solve kept fault) = ⊥
IsUnmade r case (Wide column) = GivesBefore r case (Err (rows.Wide column))
IsUnmade r case Memory = Unit {0}

-- a refusal of the cover of rows that hold over a case by the row before the case
pub record IsCoverRefusal (n : ℕ) (case : LinearCase) (now : List Candidate) (pivots splits : ℕ) (c : Candidate) (fault : CoverFault) : Type 0 where
  pub row : Linear
  pub made : GivesBefore c.row case (Ok row)
  pub rows : List Linear
  pub from : (r : Linear) → Contains rows r → Contains (step_rows case now) r
  pub refused : IsCoverFault (n + case.draws) ((row ∷ []) ∷ []) rows pivots splits fault

-- a refusal at a candidate after a case: the row before the case is too wide, or its cover is refused
pub record IsStepRefusal (n : ℕ) (case : LinearCase) (now : List Candidate) (pivots splits : ℕ) (c : Candidate) (fault : CoverFault) : Type 0 where
  pub place : c.location ≡ case.to
  pub refused : IsUnmade c.row case fault ⊎ IsCoverRefusal n case now pivots splits c fault

-- a refusal at a case, over what was left of the list
pub record IsCaseRefusal (about : CaseSystem) (list : List Candidate) (pivots splits : ℕ) (fault : CoverFault) : Type 0 where
  pub case : LinearCase
  pub now : List Candidate
  pub candidate : Candidate
  pub of_program : Contains about.cases case
  pub left : IsLeft about list now
  pub among : Contains now candidate
  pub step : IsStepRefusal about.variables case now pivots splits candidate fault

-- a refusal at a case, or want of memory
abbrev pub IsRefusal : CaseSystem → List Candidate → ℕ → ℕ → CoverFault → Type 0
IsRefusal about list pivots splits fault = (fault ≡ Memory) ⊎ IsCaseRefusal about list pivots splits fault

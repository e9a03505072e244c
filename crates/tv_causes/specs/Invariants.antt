-- The invariants of a search, and whether they are enough.
use Rattle.std.specs.Prelude.{◌≡◌, ℕ, List, Option, None, Some, length, ℤ}
use Rattle.tv_cases.specs.LinearCases.{CaseSystem}
use Rattle.tv_candidates.specs.declared.candidate.Candidate.{Candidate}
use Rattle.tv_candidates.specs.Inductive.{MeetsAll, IsPart, IsInductive, IsLargestInductive}
use Rattle.tv_candidates.specs.Offered.{false_candidates, offered}

-- the greatest inductive part of all candidates, where the proposers tell what they will give
abbrev pub IsLargestTold : CaseSystem → Option (List (List Candidate)) → List Candidate → Type 0
IsLargestTold about None known = Unit {0}
IsLargestTold about (Some rests) known = IsLargestInductive about (offered about rests) known

-- what invariants were found: an inductive list with all that is inductive of the false rows; where the proposers tell what they will give,
-- the greatest inductive part of all candidates
pub record IsStrengthened (about : CaseSystem) (told : Option (List (List Candidate))) (known : List Candidate) : Type 0 where
  pub inductive : IsInductive about known
  pub least : (part : List Candidate) → IsPart part (false_candidates about) → IsInductive about part → IsPart part known
  pub greatest : IsLargestTold about told known

-- the greatest inductive part of what is offered has no integer point at the location
pub record IsSufficient (about : CaseSystem) (rests : List (List Candidate)) (l : ℕ) : Type 0 where
  pub part : List Candidate
  pub largest : IsLargestInductive about (offered about rests) part
  pub none : (xs : List ℤ) → length xs ≡ about.variables → MeetsAll part (record { location = l; values = xs }) → ⊥

-- A search under proposers that tell all that they offer, and its faults as causes.
use Rattle.std.specs.Prelude.{◌≡◌, ℕ, ℤ, List, Option, None, Some}
use Rattle.std.specs.List.{AllZip}
use Rattle.tv_cases.specs.LinearCases.{CaseSystem}
use Rattle.tv_candidates.specs.declared.candidate.Candidate.{Candidate}
use Rattle.tv_candidates.specs.Inductive.{IsLargestInductive}
use Rattle.tv_candidates.specs.Offered.{offered}
use Rattle.tv_known.specs.Subformulas.{IsUnreachable}
use Rattle.tv_formula.specs.Properties.{Property}
use Rattle.tv_farkas.specs.declared.budget.Budget.{Budget}
use Rattle.tv_causes.specs.Causes.{Told, IsInvariantCause, AreTooManyPaths}
use Rattle.tv_invariant.specs.Asking.{Gave}
use Rattle.tv_search.specs.declared.search_fault.SearchFault.{SearchFault}
use Rattle.tv_search.specs.declared.search_fault.SearchFault.TheVariants.{Invariant, Paths, Cover, Memory}
use Rattle.tv_search.specs.Answers.{HasNoPoint, IsLeftPoint, IsUnsearched}

-- each proposer given its rest, and no integer point at the location meets the greatest inductive part of what they told
pub record ShutsOut {A : Type 0} (rest : A → Option (List Candidate)) (proposers : List A) (about : CaseSystem) (l : ℕ) : Type 0 where
  pub lists : List (List Candidate)
  pub told : AllZip (λ p given. rest p ≡ Some given) proposers lists
  pub part : List Candidate
  pub largest : IsLargestInductive about (offered about lists) part
  pub shut : HasNoPoint about l part

-- no point at the location is left
abbrev pub LeavesNone : {A : Type 0} → (A → Option (List Candidate)) → List A → CaseSystem → ℕ → Type 0
LeavesNone rest proposers about l = (point : List ℤ) → IsLeftPoint about (Gave rest proposers) l point → ⊥

-- what the proposers report: the rest of each, where each reports it
abbrev pub AreTold : {A : Type 0} → (A → Option (List Candidate)) → List A → Told → Type 0
AreTold rest proposers None = Unit {0}
AreTold rest proposers (Some rests) = AllZip (λ p given. rest p ≡ Some given) proposers rests

-- the cause for which nothing is known of the safety of the location
abbrev pub IsSafetyCause : CaseSystem → Property → Told → ℕ → Budget → SearchFault → Type 0
IsSafetyCause about f told l budget (Invariant point) = IsInvariantCause about f told l point.items
IsSafetyCause about f told l budget (Paths count point) = AreTooManyPaths about f told budget.disjuncts count
IsSafetyCause about f told l budget (Cover fault) = Unit {0}
IsSafetyCause about f told l budget Memory = Unit {0}

-- a search for the location that ends with the fault has that cause
abbrev pub IsCauseOf : {A : Type 0} → (A → Option (List Candidate)) → List A → CaseSystem → ℕ → Budget → SearchFault → Type 0
IsCauseOf rest proposers about l budget fault =
    (f : Property) (told : Told) → IsUnreachable l f → AreTold rest proposers told →
    IsUnsearched about (Gave rest proposers) l budget fault → IsSafetyCause about f told l budget fault

-- What proposers give, and what is said of it.
use Rattle.std.specs.Prelude.{◌≡◌, ◌⊎◌, ℕ, ◌≤◌, List, ◌++◌, drop, Option, None, Some}
use Rattle.std.specs.List.{filter, AllZip}
use Rattle.tv_cases.specs.LinearCases.{CaseSystem}
use Rattle.tv_farkas.specs.declared.fault.CoverFault.{CoverFault}
use Rattle.tv_farkas.specs.declared.fault.CoverFault.TheVariants.{Memory}
use Rattle.tv_candidates.specs.declared.candidate.Candidate.{Candidate}
use Rattle.tv_candidates.specs.Inductive.{IsInductive, IsPart, IsLargestInductive}
use Rattle.tv_candidates.specs.Offered.{fits, false_candidates, offered}
use Rattle.tv_invariant.specs.Falling.{IsRefusal}

-- a rest that is reported is what was given
abbrev pub IsTold : Option (List Candidate) → List Candidate → Type 0
IsTold None given = Unit {0}
IsTold (Some told) given = given ≡ told

-- what each proposer gave, where rest is what it told
abbrev pub Gave : {A : Type 0} → (A → Option (List Candidate)) → List A → List (List Candidate) → Type 0
Gave rest proposers lists = AllZip (λ p given. IsTold (rest p) given) proposers lists

-- those that were given and fit are put after the old ones
abbrev pub AreTaken : CaseSystem → List Candidate → List Candidate → List Candidate → Type 0
AreTaken about old given new = new ≡ old ++ filter (fits about) given

-- the new proposers are the last of the old ones, none of them with more left
abbrev pub HaveNoMore : {A : Type 0} → (A → ℕ) → List A → List A → Type 0
HaveNoMore left old new = (k : ℕ) × AllZip (λ p q. left q ≤ left p) (drop k old) new

-- the greatest inductive part of what was offered
abbrev pub IsStrengthened : CaseSystem → (List (List Candidate) → Type 0) → List Candidate → Type 0
IsStrengthened about Given part = (lists : List (List Candidate)) × Given lists × IsLargestInductive about (offered about lists) part

-- each inductive part of the false rows is a part of it
abbrev pub HasFalseParts : CaseSystem → List Candidate → Type 0
HasFalseParts about part = (other : List Candidate) → IsPart other (false_candidates about) → IsInductive about other → IsPart other part

-- a refusal of the greatest inductive part of what was offered, or want of memory
abbrev pub RefusesStrengthening : CaseSystem → (List (List Candidate) → Type 0) → ℕ → ℕ → CoverFault → Type 0
RefusesStrengthening about Given pivots splits fault =
    (fault ≡ Memory) ⊎ ((lists : List (List Candidate)) × Given lists × IsRefusal about (offered about lists) pivots splits fault)

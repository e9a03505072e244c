use Rattle.std.specs.Prelude.{◌≡◌, ◌↔◌, ℕ, List, [], ◌++◌, map, sum, length, true, Result, Ok, Err, Vec, MatchResult}
use Rattle.std.specs.Global.{Global}
use Rattle.tv_program.specs.Trees.{Transition}
use Rattle.tv_program.specs.Systems.{System}
use Rattle.tv_program.specs.Steps.{State, Steps}
use Rattle.tv_cases.specs.declared.case.Case.{Case}
use Rattle.tv_cases.specs.declared.case.Cases.{Cases}
use Rattle.tv_cases.specs.declared.case.CaseFault.{CaseFault}
use Rattle.tv_cases.specs.declared.case.CaseFault.TheVariants.{Wide, TooMany, Memory}
use Rattle.tv_cases.specs.declared.fault.EdgeFault.{EdgeFault}
use Rattle.tv_cases.specs.declared.program.Collected.{Collected}
use Rattle.tv_cases.specs.EdgeFaults.{IsEdgeFault}
use Rattle.tv_cases.specs.LinearCases.{LinearCase, CaseSystem, CaseSteps, coefficients}
use Rattle.tv_cases.specs.Views.{case_views}
use Rattle.tv_cases.specs.Systems.{cases_of}
use Rattle.tv_cases.specs.EdgeCases.{edge_cases, edge_is_narrow}
use Rattle.tv_cases.specs.ProgramCases.{LinearFault, wide, too_many, are_few, cases_from, linear_cases}

-- the fault is that of the definition, or memory runs out
abbrev pub IsFaultIn : Result (List LinearCase) LinearFault → CaseFault → Type 0
IsFaultIn meant (Wide edge) = meant ≡ Err (wide edge)
IsFaultIn meant (TooMany edge) = meant ≡ Err (too_many edge)
IsFaultIn meant Memory = Unit {0}

-- the answer is the linear cases of the program or their fault, or memory runs out
abbrev pub Answers : System → Result Cases CaseFault → Type 0
Answers p answer = MatchResult answer (λ c. linear_cases p ≡ Ok (cases_of c).cases) (IsFaultIn (linear_cases p))

-- the same for edges in a program of n variables
abbrev pub Lists : ℕ → List Transition → Result (Vec Case Global) CaseFault → Type 0
Lists n edges answer = MatchResult answer (λ v. cases_from n 0 [] edges ≡ Ok (case_views v.items)) (IsFaultIn (cases_from n 0 [] edges))

-- there are few cases so far, and their coefficients are counted
pub record IsCollected (c : Collected) : Type 0 where
  pub bounded : are_few (case_views c.cases.items) ≡ true
  pub counted : c.coefficients ≡ sum (map coefficients (case_views c.cases.items))

-- what was collected is the cases before and those of a narrow edge
pub record IsAdded (n : ℕ) (before : List LinearCase) (e : Transition) (c : Collected) : Type 0 where
  pub narrow : edge_is_narrow n e ≡ true
  pub cases : case_views c.cases.items ≡ before ++ edge_cases n e
  pub collected : IsCollected c

-- the cases with those of an edge, or its fault
abbrev pub AddsEdge : ℕ → List LinearCase → Transition → Result Collected EdgeFault → Type 0
AddsEdge n before e result = MatchResult result (IsAdded n before e) (IsEdgeFault (edge_is_narrow n e) (are_few (before ++ edge_cases n e)))

-- the cases are over the variables and locations of the program, and begin where it does
pub record IsOfProgram (p : System) (about : CaseSystem) : Type 0 where
  pub variables : about.variables ≡ length p.variables
  pub locations : about.locations ≡ length p.locations
  pub start : about.start ≡ p.start

-- the program steps from one state to another exactly where some case does
abbrev pub HaveSameSteps : System → CaseSystem → Type 0
HaveSameSteps p about = (s t : State) → length s.values ≡ length p.variables → Steps p s t ↔ CaseSteps about s t

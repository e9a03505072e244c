-- The graph of the cases: what leads where.
use Rattle.std.specs.Prelude.{◌≡◌, ◌⊎◌, ℕ, ◌<◌, List, [], length, get_or, Contains}
use Rattle.tv_program.specs.Steps.{State}
use Rattle.tv_cases.specs.LinearCases.{LinearCase, CaseSystem}

abbrev pub no_case : LinearCase
no_case = record { from = 0; to = 0; draws = 0; guards = []; updates = [] }

-- the case with a number
abbrev pub case_at : List LinearCase → ℕ → LinearCase
case_at cases k = get_or cases k no_case

-- location t is reached from location s along cases, maybe along none
pub data Leads (cases : List LinearCase) : ℕ → ℕ → Type 0 where
  here : (s : ℕ) → Leads cases s s
  along : (k t : ℕ) → k < length cases → Leads cases (case_at cases k).to t → Leads cases (case_at cases k).from t

-- the two locations reach each other
abbrev pub AreTogether : List LinearCase → ℕ → ℕ → Type 0
AreTogether cases s t = Leads cases s t × Leads cases t s

-- some case leads to where it is reached from again
abbrev pub HasCycle : CaseSystem → Type 0
HasCycle about = (k : ℕ) × (k < length about.cases) × Leads about.cases (case_at about.cases k).to (case_at about.cases k).from

abbrev pub HasDraw : CaseSystem → Type 0
HasDraw about = (c : LinearCase) × Contains about.cases c × (0 < c.draws)

-- the last round that counts: a fixed one where the program has a cycle, and else that of the number of locations
abbrev pub IsLastRound : CaseSystem → ℕ → ℕ → Type 0
IsLastRound about with_cycle last = (HasCycle about × (last ≡ with_cycle)) ⊎ ((HasCycle about → ⊥) × (last ≡ about.locations))

-- the state is at one of the locations and over the variables
pub record IsStateOf (about : CaseSystem) (s : State) : Type 0 where
  pub location : s.location < about.locations
  pub values : length s.values ≡ about.variables

-- the state is at the start, with a number for each variable
pub record IsInitialAt (about : CaseSystem) (s : State) : Type 0 where
  pub place : s.location ≡ about.start
  pub counted : length s.values ≡ about.variables

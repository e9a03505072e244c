use Rattle.std.specs.Prelude.{◌≡◌, ℕ, suc, ◌<◌, ◌≤◌, List, [], ◌∷◌, length, map, get_or}
use Rattle.tv_linear.specs.Linear.{Linear}
use Rattle.tv_linear.specs.declared.region.Piece.{Piece}
use Rattle.tv_cases.specs.LinearCases.{CaseSystem}
use Rattle.tv_rank.specs.Given.{lists}
use Rattle.tv_rank.specs.Ways.{case_at}
use Rattle.tv_lexrank.specs.declared.fault.RankFault.{RankFault}
use Rattle.tv_lexrank.specs.declared.fault.RankFault.TheVariants as fault
use Rattle.tv_lexrank.specs.declared.round.Round.{Round}
use Rattle.tv_lexrank.specs.declared.part.Part.{Part}
use Rattle.tv_lexrank.specs.declared.attempt.Attempt.{Attempt}
use Rattle.tv_lexrank.specs.declared.attempt.Attempt.TheVariants.{Whole, Stuck}
use Rattle.tv_lexrank.specs.Rounds.{ranks_at}
use Rattle.tv_lexrank.specs.Parts.{IsPart, IsStuck, NamesPart}

-- the parts are those of the components from one on
abbrev pub PartsFrom : CaseSystem → List Piece → List ℕ → ℕ → List Part → Type 0
PartsFrom about known numbers c [] = Unit {0}
PartsFrom about known numbers c (p ∷ ps) = IsPart about known numbers c p × PartsFrom about known numbers (suc c) ps

-- the rounds of a component
abbrev pub rounds_in : List Part → ℕ → List Round
rounds_in parts c = get_or (map (λ p. p.rounds.items) parts) c []

-- the ranks at a location
abbrev pub ranks_in : ℕ → List ℕ → List Part → ℕ → List Linear
ranks_in v numbers parts l = ranks_at v (get_or numbers l 0) (rounds_in parts (get_or numbers l 0)) l

-- no component has more rounds than a program has cases
abbrev pub AreFew : List Part → Type 0
AreFew parts = (number : ℕ) → length (rounds_in parts number) ≤ 8192

-- no case leads to a component of a greater number
abbrev pub NeverRises : CaseSystem → List ℕ → Type 0
NeverRises about numbers = (k : ℕ) → k < length about.cases → get_or numbers (case_at about.cases k).to 0 ≤ get_or numbers (case_at about.cases k).from 0

-- each number is below a bound
abbrev pub AreBelow : ℕ → List ℕ → Type 0
AreBelow n numbers = (l : ℕ) → l < length numbers → get_or numbers l 0 < n

-- the components are ranked, or a set of cases is stuck
abbrev pub IsAttempt : CaseSystem → List Piece → List ℕ → ℕ → Attempt → Type 0
IsAttempt about known numbers count (Whole parts) = (length parts.items ≡ count) × PartsFrom about known numbers 0 parts.items
IsAttempt about known numbers count (Stuck set barriers) = IsStuck about known set.items (lists barriers.items)

abbrev pub IsWhole : Attempt → Type 0
IsWhole (Whole parts) = Unit {0}
IsWhole (Stuck set barriers) = ⊥

-- the components with lesser numbers are ranked
abbrev pub AreRankedBefore : CaseSystem → List Piece → List ℕ → ℕ → Type 0
AreRankedBefore about known numbers component =
    (parts : List Part) × (length parts ≡ component) × PartsFrom about known numbers 0 parts

-- a refusal is of the system that it names, of the first component that is not ranked
abbrev pub RefusesAttempt : CaseSystem → List Piece → List ℕ → ℕ → RankFault → Type 0
RefusesAttempt about known numbers pivots (fault.Solve system e) =
    (component : ℕ) × NamesPart about known numbers component pivots system e × AreRankedBefore about known numbers component
RefusesAttempt about known numbers pivots (fault.Open taken values) = ⊥
RefusesAttempt about known numbers pivots (fault.Cover f) = ⊥
RefusesAttempt about known numbers pivots fault.Memory = Unit {0}

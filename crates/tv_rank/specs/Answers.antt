use Rattle.std.specs.Prelude.{◌≡◌, ℕ, ◌+◌, ◌*◌, ◌<◌, ◌≤◌, List, length, ℤ, Result, MatchResult}
use Rattle.std.specs.Result.{IfErr}
use Rattle.tv_simplex.specs.Systems.{Equations}
use Rattle.tv_simplex.specs.Choices.{choices}
use Rattle.tv_simplex.specs.Outcomes.{IsBarrierOf, GivesSolution, GivesBarrier, IsFirstWide}
use Rattle.tv_simplex.specs.declared.system.System.{System}
use Rattle.tv_simplex.specs.declared.fault.SolveFault.{SolveFault}
use Rattle.tv_simplex.specs.declared.fault.SolveFault.TheVariants as fault
use Rattle.tv_simplex.specs.Views.{equations, IsFault, IsFirstRefusal, IsNotSpent}
use Rattle.tv_rank.specs.declared.found.Found.{Found}
use Rattle.tv_rank.specs.declared.found.Found.TheVariants as found
use Rattle.tv_rank.specs.Given.{lists}
use Rattle.tv_rank.specs.declared.found.LocalTerm.{LocalTerm}
use Rattle.tv_rank.specs.declared.question.Question.{Question}
use Rattle.tv_rank.specs.Ways.{Way}
use Rattle.tv_rank.specs.Questions.{ways_of, many_of, system_asked}
use Rattle.tv_rank.specs.RankingSystem.{terms_below, ranking_system}
use Rattle.tv_rank.specs.Rankings.{IsFamily, NoneRanks, HasPoint}
use Rattle.tv_rank.specs.Reading.{terms_read, all_read}

-- the family ranks the ways, or the barrier is one of their ranking system, and no family does
abbrev pub IsFound : ℕ → ℕ → ℕ → (ℕ → Way) → ℕ → Found → Type 0
IsFound v locations many ways falling (found.Family terms multipliers) = IsFamily v locations many ways falling terms.items (lists multipliers.items)
IsFound v locations many ways falling (found.None barrier) =
    IsBarrierOf (ranking_system ways many falling v locations) barrier.items × NoneRanks v many ways falling

-- the terms and the multipliers are those of a solution, times a scale
pub record IsReadOff (v locations many : ℕ) (ways : ℕ → Way) (falling : ℕ) (terms : List LocalTerm) (multipliers : List (List ℤ)) : Type 0 where
  pub values : List ℤ
  pub scale : ℤ
  pub last : GivesSolution (ranking_system ways many falling v locations) values scale
  pub terms_are : terms ≡ terms_read ways many v values locations
  pub multipliers_are : multipliers ≡ all_read ways many falling values (length (terms_below ways many v locations))

-- it is what the last basis of the chain of the ranking system gives
abbrev pub GivesFound : ℕ → ℕ → ℕ → (ℕ → Way) → ℕ → Found → Type 0
GivesFound v locations many ways falling (found.Family terms multipliers) = IsReadOff v locations many ways falling terms.items (lists multipliers.items)
GivesFound v locations many ways falling (found.None barrier) = GivesBarrier (ranking_system ways many falling v locations) barrier.items

-- the system has more than 4,000,000 entries
abbrev pub IsLarge : Equations → Type 0
IsLarge s = 4000000 < s.rows * s.columns

-- the refusal is for the size of the system, or for want of memory
abbrev pub IsSize : Equations → SolveFault → Type 0
IsSize s (fault.Width basis row column) = ⊥
IsSize s (fault.Scale basis) = ⊥
IsSize s (fault.Pivots bases) = ⊥
IsSize s (fault.Size height width) = (height ≡ s.rows) × (width ≡ s.columns)
IsSize s fault.Memory = Unit {0}

-- what a refusal shows of the system; want of memory shows nothing
abbrev pub IsSystemFault : Equations → ℕ → SolveFault → Type 0
IsSystemFault s pivots (fault.Width basis row column) = IsFault s pivots (fault.Width basis row column)
IsSystemFault s pivots (fault.Scale basis) = IsFault s pivots (fault.Scale basis)
IsSystemFault s pivots (fault.Pivots bases) = IsFault s pivots (fault.Pivots bases)
IsSystemFault s pivots (fault.Size height width) = IsLarge s × IsSize s (fault.Size height width)
IsSystemFault s pivots fault.Memory = ⊥

-- the refusal is one of the system, or for want of memory
abbrev pub IsRefusal : Equations → ℕ → SolveFault → Type 0
IsRefusal s pivots (fault.Width basis row column) = IsSystemFault s pivots (fault.Width basis row column)
IsRefusal s pivots (fault.Scale basis) = IsSystemFault s pivots (fault.Scale basis)
IsRefusal s pivots (fault.Pivots bases) = IsSystemFault s pivots (fault.Pivots bases)
IsRefusal s pivots (fault.Size height width) = IsSystemFault s pivots (fault.Size height width)
IsRefusal s pivots fault.Memory = Unit {0}

-- each case of a question has a rational point
abbrev pub HavePoints : Question → Type 0
HavePoints q = (k : ℕ) → k < many_of q → HasPoint q.variables (ways_of q k)

-- what a question is answered: a family or a barrier, which the last basis of the chain of its system gives
pub record IsAnswered (q : Question) (f : Found) : Type 0 where
  pub found : IsFound q.variables q.locations (many_of q) (ways_of q) q.falling f
  pub last : GivesFound q.variables q.locations (many_of q) (ways_of q) q.falling f

-- it is the system of the question, and not large
pub record IsAsked (q : Question) (s : System) : Type 0 where
  pub same : equations s ≡ system_asked q
  pub small : (system_asked q).rows * (system_asked q).columns ≤ 4000000

-- the system is refused for its size, or for want of memory
abbrev pub IsSizeFault : Equations → SolveFault → Type 0
IsSizeFault s (fault.Width basis row column) = ⊥
IsSizeFault s (fault.Scale basis) = ⊥
IsSizeFault s (fault.Pivots bases) = ⊥
IsSizeFault s (fault.Size height width) = IsLarge s × IsSize s (fault.Size height width)
IsSizeFault s fault.Memory = Unit {0}

-- a large system is refused for its size
abbrev pub RefusesLarge : Equations → Result Found SolveFault → Type 0
RefusesLarge s result = IsLarge s → MatchResult result (λ _. ⊥) (λ e. IsSize s e)

-- a system that is not large and has numbers that are not narrow is refused at the first of them
abbrev pub RefusesFirst : Equations → Result Found SolveFault → Type 0
RefusesFirst s result = (row column : ℕ) → IsFirstWide s row column → (IsLarge s → ⊥) → MatchResult result (λ _. ⊥) (λ e. IsFirstRefusal s row column e)

-- a budget of all choices of a basis is never spent
abbrev pub IsNeverSpent : Equations → ℕ → Result Found SolveFault → Type 0
IsNeverSpent s pivots result = choices (s.columns + s.rows) s.rows ≤ pivots → IfErr result IsNotSpent

-- What is answered of a question.
use Rattle.std.specs.Prelude.{◌≡◌, ℕ, ◌+◌, ◌*◌, ◌≤◌, List, length, ℤ, Result, MatchResult}
use Rattle.std.specs.Result.{IfErr}
use Rattle.tv_linear.specs.declared.region.Piece.{Piece}
use Rattle.tv_cases.specs.LinearCases.{CaseSystem}
use Rattle.tv_simplex.specs.Systems.{Equations}
use Rattle.tv_simplex.specs.Choices.{choices}
use Rattle.tv_simplex.specs.Outcomes.{IsBarrierOf, GivesSolution, GivesBarrier, IsFirstWide}
use Rattle.tv_simplex.specs.declared.system.System.{System}
use Rattle.tv_simplex.specs.declared.fault.SolveFault.{SolveFault}
use Rattle.tv_simplex.specs.Views.{equations, IsFirstRefusal, IsNotSpent}
use Rattle.tv_rank.specs.Ways.{Way, way_at}
use Rattle.tv_rank.specs.Answers.{IsLarge, IsSize}
use Rattle.tv_rank.specs.declared.question.Question.{Question}
use Rattle.tv_nested.specs.declared.nesting.Family.{Family}
use Rattle.tv_nested.specs.declared.nesting.Nesting.{Nesting}
use Rattle.tv_nested.specs.declared.nesting.Nesting.TheVariants as nesting
use Rattle.tv_nested.specs.NestedSystem.{terms_below, nested_system}
use Rattle.tv_nested.specs.Families.{IsNestedFamily}
use Rattle.tv_nested.specs.Reading.{tuple_read, lines_read, tuple_of, lines_of_cases}
use Rattle.tv_nested.specs.Questions.{system_asked}
use Rattle.tv_nested.specs.Tuples.{NoneNested}

-- the terms and the multipliers are those of a solution, times its scale
pub record IsReadOff (v locations many d : ℕ) (ways : ℕ → Way) (family : Family) : Type 0 where
  pub values : List ℤ
  pub last : GivesSolution (nested_system ways many d v locations) values family.scale
  pub terms_are : tuple_of family.terms.items ≡ tuple_read ways many d v values locations d
  pub lines_are : lines_of_cases family.lines.items ≡ lines_read ways d values (length (terms_below ways many d v locations)) many

-- d terms that are nested over the ways, or a barrier of their nested system: then none are
abbrev pub IsFound : ℕ → ℕ → ℕ → ℕ → (ℕ → Way) → Nesting → Type 0
IsFound v locations many d ways (nesting.Terms family) =
    IsNestedFamily v locations many d ways (tuple_of family.terms.items) family.scale (lines_of_cases family.lines.items)
IsFound v locations many d ways (nesting.None barrier) = IsBarrierOf (nested_system ways many d v locations) barrier.items × NoneNested v d many ways

-- it is what the last basis of the chain of the nested system gives
abbrev pub GivesFound : ℕ → ℕ → ℕ → ℕ → (ℕ → Way) → Nesting → Type 0
GivesFound v locations many d ways (nesting.Terms family) = IsReadOff v locations many d ways family
GivesFound v locations many d ways (nesting.None barrier) = GivesBarrier (nested_system ways many d v locations) barrier.items

-- what is answered of d terms over ways
pub record IsAnswered (v locations many d : ℕ) (ways : ℕ → Way) (n : Nesting) : Type 0 where
  pub found : IsFound v locations many d ways n
  pub last : GivesFound v locations many d ways n

-- it is the system of the question, and not large
pub record IsAsked (q : Question) (d : ℕ) (s : System) : Type 0 where
  pub same : equations s ≡ system_asked q d
  pub small : (system_asked q d).rows * (system_asked q d).columns ≤ 4000000

-- a large system is refused for its size
abbrev pub RefusesLarge : Equations → Result Nesting SolveFault → Type 0
RefusesLarge s result = IsLarge s → MatchResult result (λ _. ⊥) (λ e. IsSize s e)

-- a system that is not large and has numbers that are not narrow is refused at the first of them
abbrev pub RefusesFirst : Equations → Result Nesting SolveFault → Type 0
RefusesFirst s result = (row column : ℕ) → IsFirstWide s row column → (IsLarge s → ⊥) → MatchResult result (λ _. ⊥) (λ e. IsFirstRefusal s row column e)

-- a budget of all choices of a basis is never spent
abbrev pub IsNeverSpent : Equations → ℕ → Result Nesting SolveFault → Type 0
IsNeverSpent s pivots result = choices (s.columns + s.rows) s.rows ≤ pivots → IfErr result IsNotSpent

-- ---- a set of cases of a program
-- the nested system of a set of cases, with d terms at each location
abbrev pub system_of_set : CaseSystem → List Piece → List ℕ → ℕ → Equations
system_of_set about known set d = nested_system (way_at about.cases known set) (length set) d about.variables about.locations

-- what a set of cases is answered under the rows that are known at the locations
abbrev pub IsAnsweredFor : CaseSystem → List Piece → List ℕ → ℕ → Nesting → Type 0
IsAnsweredFor about known set d a = IsAnswered about.variables about.locations (length set) d (way_at about.cases known set) a

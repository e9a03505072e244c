-- Why the ranks of a program do not serve for a fixpoint that is to come to its end on every run.
use Rattle.std.specs.Prelude.{◌≡◌, ◌⊎◌, ℕ, true}
use Rattle.tv_program.specs.Steps.{State}
use Rattle.tv_formula.specs.declared.tree.Path.TheVariants.{Every}
use Rattle.tv_formula.specs.declared.tree.Shape.{Shape}
use Rattle.tv_formula.specs.Properties.{Property, fix, term, negated}
use Rattle.tv_linear.specs.declared.region.Region.{Region}
use Rattle.tv_simplex.specs.declared.fault.SolveFault.{SolveFault}
use Rattle.tv_simplex.specs.declared.fault.SolveFault.TheVariants as solving
use Rattle.tv_meaning.specs.Meaning.{Holds}
use Rattle.tv_cases.specs.LinearCases.{CaseSystem, CaseSteps}
use Rattle.tv_known.specs.Cycles.{IsStateOf}
use Rattle.tv_known.specs.Ranking.{HasLexicographicRanking}
use Rattle.tv_known.specs.Rounds.{HoldSide, EndSides, Goes, must_end}
use Rattle.tv_rank.specs.declared.name.Name.{Name}
use Rattle.tv_region.specs.Differences.{AreOfDifferences}
use Rattle.tv_region.specs.StepRegions.{HasNoDraws, InState}
use Rattle.tv_lexrank.specs.First.{RefusesFirst}
use Rattle.tv_lexrank.specs.declared.fault.RankFault.TheVariants as ranks

-- ---- the ranking

-- for `pivots` pivots, the system of this name of the search for a ranking has the fault, which is no want of memory
pub record IsRankingRefused (about : CaseSystem) (pivots : ℕ) (system : Name) (fault : SolveFault) : Type 0 where
  pub refuses : RefusesFirst about pivots (ranks.Solve system fault)
  pub is_no_want : fault ≡ solving.Memory → ⊥

-- ---- the cases

-- going back into all states is exact: no case has a draw, or all are of differences
abbrev pub AreTameCases : CaseSystem → Type 0
AreTameCases about = HasNoDraws about ⊎ AreOfDifferences about

-- they have no lexicographic ranking
abbrev pub IsUnranked : CaseSystem → Type 0
IsUnranked about = HasLexicographicRanking about → ⊥

-- ---- the states

-- some state of the program is in neither region
pub record SomeIsOutside (about : CaseSystem) (first second : Region) : Type 0 where
  pub state : State
  pub is : IsStateOf about state
  pub not_first : InState first state → ⊥
  pub not_second : InState second state → ⊥

-- some state of the program is neither at the end nor on the way with a step
pub record SomeIsBeside (about : CaseSystem) (hold end : State → Type 0) : Type 0 where
  pub state : State
  pub is : IsStateOf about state
  pub not_end : end state → ⊥
  pub not_way : hold state → Goes about state → ⊥

-- ---- the fixpoint

-- of two sets: there is no ranking; or, where going back is exact, some state is neither at the end of the fixpoint nor on the way with a
-- step
abbrev pub IsUnservedBy : CaseSystem → Shape → (State → Type 0) → (State → Type 0) → Type 0
IsUnservedBy about shape f g = IsUnranked about ⊎ (AreTameCases about → SomeIsBeside about (λ s. HoldSide shape f g s) (λ s. EndSides shape f g s))

-- so it is with the property, if it is such a fixpoint; if it is termination or its negation, there is no ranking
abbrev pub IsUnserved : CaseSystem → Property → Type 0
IsUnserved about term = IsUnranked about
IsUnserved about (negated term) = IsUnranked about
IsUnserved about (fix Every shape f g) = must_end shape ≡ true → IsUnservedBy about shape (λ s. Holds (CaseSteps about) f s) (λ s. Holds (CaseSteps about) g s)
IsUnserved about f = Unit {0}

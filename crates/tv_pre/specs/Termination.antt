-- Termination and its negation, by rounds.
use Rattle.std.specs.Prelude.{ℕ, ◌≤◌, true, false, IfSome}
use Rattle.tv_formula.specs.declared.tree.Path.{Path}
use Rattle.tv_formula.specs.declared.tree.Path.TheVariants.{Every, Any}
use Rattle.tv_formula.specs.Properties.{Property, truth, next}
use Rattle.tv_linear.specs.declared.region.Region.{Region}
use Rattle.tv_cases.specs.LinearCases.{CaseSystem}
use Rattle.tv_cert.specs.Statements.{Statement}
use Rattle.tv_known.specs.Laws.{Decides}
use Rattle.tv_known.specs.Rounds.{Goes}
use Rattle.tv_known.specs.Sizes.{next_count}
use Rattle.tv_region.specs.Regions.{IsRegion, count_at}
use Rattle.tv_region.specs.StepRegions.{HasNoDraws}
use Rattle.tv_pre.specs.declared.outcome.Found.{Found}
use Rattle.tv_pre.specs.Built.{IsBuilt}
use Rattle.tv_pre.specs.Finding.{IsFound}
use Rattle.tv_pre.specs.Full.{IsFull, IsExactly}
use Rattle.tv_pre.specs.Unserved.{IsUnranked}

-- ---- the sides

-- termination is the until of these two over every run: it comes to a state without a step
abbrev pub anything : Property
anything = truth true

abbrev pub stopping : Property
stopping = next Every (truth false)

-- its negation is the release of these two over some run: each state of it has a step
abbrev pub nothing : Property
nothing = truth false

abbrev pub going : Property
going = next Any (truth true)

-- Two regions have exactly the states of the program where two properties hold, and at the others the negations of these do. They are made of
-- no atom, and of one step back. The first has at most one piece at each location, and the second, where no case has a draw, no more than are
-- counted for one step back over the path. It can be told whether a state has a step.
pub record AreSidesOf (about : CaseSystem) (path : Path) (f g : Property) (first second : Region) : Type 0 where
  pub first_over : IsRegion about.variables about.locations first
  pub second_over : IsRegion about.variables about.locations second
  pub first_exact : IsExactly about f first
  pub second_exact : IsExactly about g second
  pub first_full : IsFull about f first
  pub second_full : IsFull about g second
  pub first_built : (s : Statement) → IsBuilt about s 1 first
  pub second_built : (s : Statement) → IsBuilt about s 1 second
  pub first_few : (l : ℕ) → count_at l first ≤ 1
  pub second_few : HasNoDraws about → (l : ℕ) → count_at l second ≤ next_count about.cases path (λ k. 1) l
  pub goes : Decides about (Goes about)

-- ---- what is found

-- it is found of the statement if the program has no ranking; without a gap in any case
abbrev pub IsFoundIfUnranked : CaseSystem → ℕ → Statement → Found → Type 0
IsFoundIfUnranked about last s found = IfSome found.gap (λ gap. IsUnranked about) → IsFound about last s found

-- Regions that lack only states where the formula fails.
use Rattle.std.specs.Prelude.{◌⊎◌, ◌↔◌, ℕ, List, [], ◌∷◌, IsTrue}
use Rattle.tv_program.specs.Steps.{State}
use Rattle.tv_formula.specs.Properties.{Property, truth, compare, at, term, negated, all_of, some_of, next, fix, Properties, none, more}
use Rattle.tv_formula.specs.Normal.{negation}
use Rattle.tv_linear.specs.declared.region.Region.{Region}
use Rattle.tv_meaning.specs.Meaning.{Holds}
use Rattle.tv_cases.specs.Comparisons.{has_rows}
use Rattle.tv_cases.specs.LinearCases.{CaseSystem, CaseSteps}
use Rattle.tv_known.specs.Cycles.{IsStateOf}
use Rattle.tv_region.specs.Regions.{IsRegion}
use Rattle.tv_region.specs.StepRegions.{InState}

abbrev mutual
  -- each comparison of a normal property has rows over n variables: no number of its parts and of its rows is too wide
  pub HasRows : ℕ → Property → Type 0
  HasRows n (truth b) = Unit {0}
  HasRows n (compare r a b) = IsTrue (has_rows n r a b)
  HasRows n (at l) = Unit {0}
  HasRows n term = Unit {0}
  HasRows n (negated f) = Unit {0}
  HasRows n (all_of fs) = AllHaveRows n fs
  HasRows n (some_of fs) = AllHaveRows n fs
  HasRows n (next path f) = HasRows n f
  HasRows n (fix path shape f g) = HasRows n f × HasRows n g

  pub AllHaveRows : ℕ → Properties → Type 0
  AllHaveRows n none = Unit {0}
  AllHaveRows n (more f fs) = HasRows n f × AllHaveRows n fs

-- each state of the program that the region lacks is one where the negation of the property holds
abbrev pub IsFull : CaseSystem → Property → Region → Type 0
IsFull about f region = (s : State) → IsStateOf about s → (InState region s → ⊥) → Holds (CaseSteps about) (negation f) s

-- the region has exactly the states of the program where the property holds
abbrev pub IsExactly : CaseSystem → Property → Region → Type 0
IsExactly about f region = (s : State) → IsStateOf about s → InState region s ↔ Holds (CaseSteps about) f s

-- one region for each property, in order
abbrev pub AreFull : CaseSystem → Properties → List Region → Type 0
AreFull about none [] = Unit {0}
AreFull about none (region ∷ regions) = ⊥
AreFull about (more f fs) [] = ⊥
AreFull about (more f fs) (region ∷ regions) = IsFull about f region × AreFull about fs regions

-- then it has each state where the property holds
abbrev pub FullHasAll : CaseSystem → Property → Type 0
FullHasAll about f =
    (region : Region) → IsRegion about.variables about.locations region → IsFull about f region
    → (s : State) → IsStateOf about s → Holds (CaseSteps about) f s → InState region s

-- and such regions of a property and of its negation have each state between them
abbrev pub FullTell : CaseSystem → Property → Type 0
FullTell about f =
    (first second : Region) → IsRegion about.variables about.locations first → IsRegion about.variables about.locations second
    → IsFull about f first → IsFull about (negation f) second → (s : State) → IsStateOf about s → InState first s ⊎ InState second s

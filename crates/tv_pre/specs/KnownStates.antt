-- Regions that have the states that the rounds of a formula tell of.
use Rattle.std.specs.Prelude.{◌≡◌, ℕ, List, [], ◌∷◌, Bool, true, false, None, IfSome}
use Rattle.tv_program.specs.Steps.{State}
use Rattle.tv_formula.specs.declared.tree.Shape.{Shape}
use Rattle.tv_formula.specs.Properties.{Property}
use Rattle.tv_linear.specs.declared.region.Region.{Region}
use Rattle.tv_cases.specs.LinearCases.{CaseSystem}
use Rattle.tv_cert.specs.Statements.{Statement}
use Rattle.tv_known.specs.Cycles.{IsStateOf}
use Rattle.tv_known.specs.Known.{Known, IsRankedOn, FixKnown}
use Rattle.tv_known.specs.Rounds.{must_end, HoldSide, EndSides, SidesHold}
use Rattle.tv_region.specs.StepRegions.{InState}
use Rattle.tv_pre.specs.declared.along.Along.{Along}
use Rattle.tv_pre.specs.declared.outcome.Found.{Found}
use Rattle.tv_pre.specs.declared.sides.Sides.{Sides}
use Rattle.tv_pre.specs.Along.{arguments}
use Rattle.tv_pre.specs.Built.{AreBuilt}
use Rattle.tv_pre.specs.Finding.{States, IsTameStatement}
use Rattle.tv_pre.specs.Full.{HasRows}
use Rattle.tv_pre.specs.Unserved.{IsUnranked}

-- the region has each state of the program that is in the set; where it is to have these alone, it has no other one
pub record HasStates (about : CaseSystem) (alone : Bool) (set : State → Type 0) (region : Region) : Type 0 where
  pub all : (s : State) → IsStateOf about s → set s → InState region s
  pub only : alone ≡ true → (s : State) → IsStateOf about s → InState region s → set s

-- whatever formula the statement is of, where going back is exact and the comparisons have rows, these are the states that the rounds up to
-- the last tell of
abbrev pub IsKnownFor : CaseSystem → ℕ → Bool → Statement → Region → Type 0
IsKnownFor about last alone s region =
    IsTameStatement about s → (f : Property) → States about s f → HasRows about.variables f → HasStates about alone (λ t. Known about last f t) region

-- the region that was found of the statement has these
pub record HasKnownStates (about : CaseSystem) (last : ℕ) (alone : Bool) (s : Statement) (found : Found) : Type 0 where
  pub states : IsKnownFor about last alone s found.part.region

-- so it is with the region of each statement, in order
abbrev pub AreKnownFor : CaseSystem → ℕ → Bool → List Statement → List Region → Type 0
AreKnownFor about last alone [] [] = Unit {0}
AreKnownFor about last alone [] (region ∷ regions) = ⊥
AreKnownFor about last alone (s ∷ ss) [] = ⊥
AreKnownFor about last alone (s ∷ ss) (region ∷ regions) = IsKnownFor about last alone s region × AreKnownFor about last alone ss regions

-- the states that the rounds of a fixpoint of two regions tell of
abbrev pub known_along : CaseSystem → ℕ → Sides → State → Type 0
known_along about last sides s = FixKnown about last sides.path sides.shape (λ t. InState sides.first.now t) (λ t. InState sides.second.now t) s

-- whatever statement the regions are made for, where going back is exact, the region has these
abbrev pub IsKnownAlong : CaseSystem → ℕ → Bool → Sides → Region → Type 0
IsKnownAlong about last alone sides region =
    (s : Statement) (h : ℕ) → AreBuilt about s h (arguments sides) → IsTameStatement about s → HasStates about alone (λ t. known_along about last sides t) region

-- the fixpoint of two regions holds
abbrev pub holds_along : CaseSystem → Sides → State → Type 0
holds_along about sides s =
    let first = λ (t : State). InState sides.first.now t in
    let second = λ (t : State). InState sides.second.now t in
    SidesHold about sides.path sides.shape (λ t. HoldSide sides.shape first second t) (λ t. EndSides sides.shape first second t) s

-- if it need not come to its end, and its rounds leave no gap, the part has each state where it holds
abbrev pub HasHolding : CaseSystem → Sides → Along → Type 0
HasHolding about sides along =
    must_end sides.shape ≡ false → along.gap ≡ None → (s : State) → IsStateOf about s → holds_along about sides s → InState along.part.region s

-- The regions of the arguments of a fixpoint are to have the known states alone where its own region is, and where the fixpoint need not
-- come to its end.
pub record IsAloneIn (alone : Bool) (shape : Shape) (inner : Bool) : Type 0 where
  pub kept : alone ≡ true → inner ≡ true
  pub shrinking : must_end shape ≡ false → inner ≡ true

-- ---- by rounds alone

-- if the fixpoint of two regions is to come to its end, it is not ranked
abbrev pub IsNotRanked : CaseSystem → Sides → Type 0
IsNotRanked about sides = must_end sides.shape ≡ true → IsRankedOn about sides.path sides.shape (λ t. InState sides.first.now t) (λ t. InState sides.second.now t) → ⊥

-- the part has these states, if the fixpoint is not ranked where its rounds leave a gap
abbrev pub IsKnownByRounds : CaseSystem → ℕ → Bool → Sides → Along → Type 0
IsKnownByRounds about last alone sides along =
    IfSome along.gap (λ gap. IsNotRanked about sides) → HasStates about alone (λ t. known_along about last sides t) along.part.region

-- the same whatever statement the regions are made for, where going back is exact
abbrev pub IsKnownIfTame : CaseSystem → ℕ → Bool → Sides → Along → Type 0
IsKnownIfTame about last alone sides along =
    (s : Statement) (h : ℕ) → AreBuilt about s h (arguments sides) → IsTameStatement about s → IsKnownByRounds about last alone sides along

-- what is found has these states if the program has no ranking; where there is no gap, in any case
abbrev pub IsKnownIfUnranked : CaseSystem → ℕ → Bool → Statement → Found → Type 0
IsKnownIfUnranked about last alone s found = IfSome found.gap (λ gap. IsUnranked about) → IsKnownFor about last alone s found.part.region

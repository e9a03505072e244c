-- The regions of a fixpoint, made of those of its arguments.
use Rattle.std.specs.Prelude.{◌≡◌, ℕ, suc, List, [], ◌∷◌}
use Rattle.tv_program.specs.Steps.{State}
use Rattle.tv_formula.specs.declared.tree.Path.{Path}
use Rattle.tv_formula.specs.Normal.{other_path}
use Rattle.tv_formula.specs.Properties.{Property, fix, none, more}
use Rattle.tv_linear.specs.declared.region.Region.{Region}
use Rattle.tv_cases.specs.LinearCases.{CaseSystem, CaseSteps}
use Rattle.tv_cert.specs.declared.node.Node.{Node}
use Rattle.tv_known.specs.Cycles.{IsStateOf}
use Rattle.tv_known.specs.Rounds.{StaysIn, must_end, FixRound}
use Rattle.tv_cert.specs.Statements.{Statement}
use Rattle.tv_cert.specs.Obligations.{hold_side}
use Rattle.tv_rounds.specs.declared.fixed_point.FixedPoint.{FixedPoint}
use Rattle.tv_rounds.specs.declared.answer.Rounds.{Rounds}
use Rattle.tv_rounds.specs.Sides.{AreTame}
use Rattle.tv_rounds.specs.Answers.{IsAnswer, IsExactBy, IsFullBy, Differ}
use Rattle.tv_region.specs.Regions.{IsRegion}
use Rattle.tv_region.specs.StepRegions.{InState, IsTame}
use Rattle.tv_pre.specs.declared.part.Part.{Part}
use Rattle.tv_pre.specs.declared.sides.Sides.{Sides}
use Rattle.tv_pre.specs.Inclusions.{LeadsTo}
use Rattle.tv_pre.specs.Fixed.{OnWay, AtEnd}
use Rattle.tv_pre.specs.Parts.{IsPart, AreParts}
use Rattle.tv_pre.specs.Built.{AreBuilt, IsBuiltOf}
use Rattle.tv_pre.specs.Finding.{IsTameStatement}
use Rattle.tv_pre.specs.declared.gap.Gap.{Gap}
use Rattle.tv_pre.specs.declared.gap.Gap.TheVariants.{Inexact, Open}
use Rattle.tv_pre.specs.Full.{IsFull}

-- the regions of both arguments
abbrev pub arguments : Sides → List Region
arguments sides = sides.first.now ∷ sides.second.now ∷ []

-- the region has only states of the set, and all of them where that is said
pub record AreWithin (about : CaseSystem) (exact : Type 0) (set : State → Type 0) (region : Region) : Type 0 where
  pub over : IsRegion about.variables about.locations region
  pub right : (s : State) → IsStateOf about s → InState region s → set s
  pub all : exact → (s : State) → IsStateOf about s → set s → InState region s

-- the states from which each step leads into the region, or some step does; all where going back is exact
abbrev pub AreBefore : CaseSystem → Path → Region → Region → Type 0
AreBefore about path into region = AreWithin about (IsTame about into) (LeadsTo about path (InState into)) region

-- where going back is exact, some step from each other state leads out of the region, or each step does
abbrev pub OthersLeadOut : CaseSystem → Path → Region → Region → Type 0
OthersLeadOut about path into region =
    IsTame about into → (s : State) → IsStateOf about s → (InState region s → ⊥) → LeadsTo about (other_path path) (λ t. InState into t → ⊥) s

-- the same, or those without a step where some step is asked for
abbrev pub AreBeforeOrStop : CaseSystem → Path → Region → Region → Type 0
AreBeforeOrStop about path into region = AreWithin about (IsTame about into) (StaysIn (CaseSteps about) path (InState into)) region

-- those of them that are on the way
abbrev pub AreOnward : CaseSystem → Sides → Region → Region → Type 0
AreOnward about sides into region = AreWithin about (IsTame about into) (λ s. OnWay sides s × StaysIn (CaseSteps about) sides.path (InState into) s) region

-- the states at the end
abbrev pub AreAtEnd : CaseSystem → Sides → Region → Type 0
AreAtEnd about sides region = AreWithin about (Unit {0}) (AtEnd sides) region

-- the fixpoint has the sides, and these states at its end
pub record IsOfSides (sides : Sides) (end : Region) (point : FixedPoint) : Type 0 where
  pub path : point.path ≡ sides.path
  pub shape : point.shape ≡ sides.shape
  pub hold : point.hold.now ≡ hold_side sides.shape sides.first.now sides.second.now
  pub ends : point.end.now ≡ end

-- the rounds are those of such a fixpoint, for which going back is exact
pub record AreRoundsOf (about : CaseSystem) (last : ℕ) (sides : Sides) (end : Region) (answer : Rounds) : Type 0 where
  pub point : FixedPoint
  pub of : IsOfSides sides end point
  pub tame : AreTame about point
  pub rounds : IsAnswer (must_end sides.shape) about point last answer
  pub exact : IsExactBy (must_end sides.shape) about point answer
  pub full : IsFullBy (must_end sides.shape) about point answer

-- The part is one of the fixpoint of these arguments and nodes; its region is made of given ones, with k more steps back.
pub record IsAlong (about : CaseSystem) (k : ℕ) (given : List Region) (sides : Sides) (children : List Node) (part : Part) : Type 0 where
  pub over : IsRegion about.variables about.locations part.region
  pub shows : (f g : Property) → AreParts about (more f (more g none)) (arguments sides) children →
      IsPart about (fix sides.path sides.shape f g) part.region part.node
  pub built : IsBuiltOf about k given part.region

-- where the regions of the arguments lack only states where these fail, so does that of the fixpoint
abbrev pub IsFullAlong : CaseSystem → Sides → Region → Type 0
IsFullAlong about sides region =
    (f g : Property) → IsFull about f sides.first.now → IsFull about g sides.second.now → IsFull about (fix sides.path sides.shape f g) region

-- the last round of the fixpoint of the regions of the arguments has other states than the next one
abbrev pub IsOpenAlong : CaseSystem → ℕ → Sides → Type 0
IsOpenAlong about last sides =
    let round = FixRound about sides.path sides.shape (InState sides.first.now) (InState sides.second.now) in
    Differ about (round last) (round (suc last))

-- what a gap of a fixpoint itself says: whatever statement its arguments are made for, going back is not exact; or it has the number 0, and
-- the last round has other states than the next one
abbrev pub IsGapAlong : CaseSystem → ℕ → Sides → Gap → Type 0
IsGapAlong about last sides Inexact = (s : Statement) (h : ℕ) → AreBuilt about s h (arguments sides) → IsTameStatement about s → ⊥
IsGapAlong about last sides (Open place) =
    (place ≡ 0) × IsOpenAlong about last sides

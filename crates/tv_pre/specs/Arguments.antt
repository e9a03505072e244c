-- What is found of the arguments of a formula.
use Rattle.std.specs.Prelude.{◌≡◌, ℕ, None, IfSome, List, [], ◌∷◌, All, Bool}
use Rattle.tv_linear.specs.declared.region.Region.{Region}
use Rattle.tv_cases.specs.LinearCases.{CaseSystem}
use Rattle.tv_cert.specs.declared.node.Node.{Node}
use Rattle.tv_cert.specs.AimViews.{statements_of}
use Rattle.tv_cert.specs.Statements.{Statement}
use Rattle.tv_region.specs.Regions.{IsRegion}
use Rattle.tv_pre.specs.declared.finding.Arguments.{Arguments}
use Rattle.tv_pre.specs.declared.outcome.Found.{Found}
use Rattle.tv_pre.specs.Finding.{IsGapAmong, IsPartFor, IsFullFor, IsFound, steps_back, total_size}
use Rattle.tv_pre.specs.Built.{IsBuilt}
use Rattle.tv_pre.specs.KnownStates.{HasKnownStates}
use Rattle.tv_pre.specs.Sized.{IsFewFor}

-- the region and the node of one argument
pub record IsArgument (about : CaseSystem) (last : ℕ) (s : Statement) (region : Region) (node : Node) : Type 0 where
  pub over : IsRegion about.variables about.locations region
  pub shows : IsPartFor about s region node
  pub built : IsBuilt about s (steps_back last s) region
  pub bounded : IsFewFor about s region

-- those of each, in order
abbrev pub AreEachArgument : CaseSystem → ℕ → List Statement → List Region → List Node → Type 0
AreEachArgument about last [] [] [] = Unit {0}
AreEachArgument about last [] [] (node ∷ nodes) = ⊥
AreEachArgument about last [] (region ∷ regions) nodes = ⊥
AreEachArgument about last (s ∷ ss) [] nodes = ⊥
AreEachArgument about last (s ∷ ss) (region ∷ regions) [] = ⊥
AreEachArgument about last (s ∷ ss) (region ∷ regions) (node ∷ nodes) = IsArgument about last s region node × AreEachArgument about last ss regions nodes

-- each region lacks only states where its statement fails
abbrev pub AreFullFor : CaseSystem → List Statement → List Region → Type 0
AreFullFor about [] [] = Unit {0}
AreFullFor about [] (region ∷ regions) = ⊥
AreFullFor about (s ∷ ss) [] = ⊥
AreFullFor about (s ∷ ss) (region ∷ regions) = IsFullFor about s region × AreFullFor about ss regions

-- they are found of the arguments
pub record AreArguments (about : CaseSystem) (last : ℕ) (ss : List Statement) (arguments : Arguments) : Type 0 where
  pub each : AreEachArgument about last ss arguments.regions.items arguments.nodes.items
  pub size : arguments.size ≡ total_size (statements_of ss)
  pub gap : IfSome arguments.gap (IsGapAmong about last (statements_of ss))
  pub full : arguments.gap ≡ None → AreFullFor about ss arguments.regions.items

-- their regions are over the cases
abbrev pub AreArgumentsOf : CaseSystem → Arguments → Type 0
AreArgumentsOf about arguments = All (IsRegion about.variables about.locations) arguments.regions.items

-- what was found of the first of the statements, in order
abbrev pub AreFoundFirst : CaseSystem → ℕ → List Statement → List Found → Type 0
AreFoundFirst about last ss [] = Unit {0}
AreFoundFirst about last [] (found ∷ founds) = ⊥
AreFoundFirst about last (s ∷ ss) (found ∷ founds) = IsFound about last s found × AreFoundFirst about last ss founds

-- those of the first of the statements have the states that the rounds up to the last tell of
abbrev pub AreKnownFirst : CaseSystem → ℕ → Bool → List Statement → List Found → Type 0
AreKnownFirst about last alone ss [] = Unit {0}
AreKnownFirst about last alone [] (found ∷ founds) = ⊥
AreKnownFirst about last alone (s ∷ ss) (found ∷ founds) = HasKnownStates about last alone s found × AreKnownFirst about last alone ss founds

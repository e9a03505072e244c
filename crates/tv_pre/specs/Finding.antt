-- What is found of a formula, bottom-up.
use Rattle.std.specs.Prelude.{◌≡◌, ◌⊎◌, ℕ, ◌+◌, ◌<◌, ◌≤◌, ◌≤ℤ◌, Option, None, Some, IfSome, List, ◌∷◌, length, map, All, Contains, ℤ, slice_get, slice_index, slice_index_or, pos}
use Rattle.tv_formula.specs.Properties.{Property, Properties}
use Rattle.tv_linear.specs.Linear.{Linear}
use Rattle.tv_linear.specs.declared.region.Region.{Region}
use Rattle.tv_cases.specs.Comparisons.{comparison_lists}
use Rattle.tv_cases.specs.LinearCases.{LinearCase, CaseSystem}
use Rattle.tv_cert.specs.declared.node.Node.{Node}
use Rattle.tv_cert.specs.Statements.{Statement, rows, here, elsewhere, ends, never_ends, each_of, one_of, after, along, unsaid, Statements, no_statement, statement, stated, stated_all}
use Rattle.tv_cover.specs.Targets.{AreEven}
use Rattle.tv_region.specs.Regions.{IsRegion}
use Rattle.tv_formula.specs.Normal.{negation}
use Rattle.tv_known.specs.Cycles.{HasCycle}
use Rattle.tv_known.specs.Rounds.{Goes}
use Rattle.tv_known.specs.Laws.{Decides}
use Rattle.tv_known.specs.Subformulas.{subformulas, all_subformulas, IsUnsettled}
use Rattle.tv_region.specs.Met.{InSome}
use Rattle.tv_region.specs.Differences.{IsDifference, AreOfDifferences, IsOfDifferences}
use Rattle.tv_region.specs.StepRegions.{HasNoDraws}
use Rattle.tv_pre.specs.declared.gap.Gap.{Gap}
use Rattle.tv_pre.specs.declared.gap.Gap.TheVariants.{Inexact, Open}
use Rattle.tv_pre.specs.declared.outcome.Found.{Found}
use Rattle.tv_pre.specs.Full.{HasRows, AllHaveRows, IsFull, IsExactly}
use Rattle.tv_pre.specs.Parts.{IsPart, AreParts}
use Rattle.tv_farkas.specs.declared.budget.Budget.{Budget}
use Rattle.tv_pre.specs.declared.fault.PreFault.{PreFault}
use Rattle.tv_pre.specs.declared.test.Test.{Test}
use Rattle.tv_pre.specs.declared.test.Test.TheVariants.{Rows, Here, Elsewhere}
use Rattle.tv_pre.specs.Built.{HasAtom, IsBuilt, IsPreFault}
use Rattle.tv_pre.specs.Unserved.{IsUnserved}
use Rattle.tv_pre.specs.Sized.{IsFewFor}
use Rattle.tv_pre.specs.Tame.{IsLocalStatement}

-- ---- the program

-- both ends of each case are among the first locations
abbrev pub AreBetween : ℕ → List LinearCase → Type 0
AreBetween n cases = (c : LinearCase) → Contains cases c → (c.from < n) × (c.to < n)

-- some case leads to a location with the same number
abbrev pub StaysTogether : List ℕ → List LinearCase → Type 0
StaysTogether numbers cases = (c : LinearCase) × Contains cases c × (slice_index numbers c.from ≡ slice_index numbers c.to)

abbrev pub AreBetweenNumbers : ℤ → ℤ → List ℤ → Type 0
AreBetweenNumbers least most numbers = (j : ℕ) → j < length numbers →
    (least ≤ℤ slice_index_or numbers j (pos 0)) × (slice_index_or numbers j (pos 0) ≤ℤ most)

-- from a place on, and before another one, none of the numbers is this one
abbrev pub IsAbsent : ℤ → List ℤ → ℕ → ℕ → Type 0
IsAbsent wanted numbers from to = (j : ℕ) → from ≤ j → j < to → slice_index_or numbers j (pos 0) ≡ wanted → ⊥

-- at most at one place of the numbers is this one
abbrev pub IsAtMostOnce : ℤ → List ℤ → Type 0
IsAtMostOnce wanted numbers = (i j : ℕ) → i < length numbers → j < length numbers → slice_index_or numbers i (pos 0) ≡ wanted →
    slice_index_or numbers j (pos 0) ≡ wanted → i ≡ j

-- going back into the regions is exact: no case has a draw, or all is of differences
abbrev pub IsTameFor : CaseSystem → Region → Region → Type 0
IsTameFor about first second = HasNoDraws about ⊎ (AreOfDifferences about × IsOfDifferences first × IsOfDifferences second)

-- ---- gaps

-- what a gap says of the program: going back may not be exact only where some case has a draw
abbrev pub IsGapOf : CaseSystem → Gap → Type 0
IsGapOf about Inexact = HasNoDraws about → ⊥
IsGapOf about (Open place) = Unit {0}

-- the first of two gaps
abbrev pub first_of : Option Gap → Option Gap → Option Gap
first_of (Some gap) second = Some gap
first_of None second = second

-- the gap of an argument with `count` subformulas before it
abbrev pub gap_behind : ℕ → Option Gap → Option Gap
gap_behind count None = None
gap_behind count (Some Inexact) = Some Inexact
gap_behind count (Some (Open place)) = Some (Open (count + place))

-- ---- the formula

-- the statement is that of the formula
abbrev pub States : CaseSystem → Statement → Property → Type 0
States about s f = s ≡ stated (comparison_lists about.variables) f

abbrev mutual
  -- the rows of its comparisons have n columns
  pub IsEvenStatement : ℕ → Statement → Type 0
  IsEvenStatement n (rows lists) = All (AreEven n) lists
  IsEvenStatement n (here l) = Unit {0}
  IsEvenStatement n (elsewhere l) = Unit {0}
  IsEvenStatement n ends = Unit {0}
  IsEvenStatement n never_ends = Unit {0}
  IsEvenStatement n (each_of ss) = AreEvenStatements n ss
  IsEvenStatement n (one_of ss) = AreEvenStatements n ss
  IsEvenStatement n (after path s) = IsEvenStatement n s
  IsEvenStatement n (along path shape s t) = IsEvenStatement n s × IsEvenStatement n t
  IsEvenStatement n unsaid = Unit {0}

  pub AreEvenStatements : ℕ → Statements → Type 0
  AreEvenStatements n no_statement = Unit {0}
  AreEvenStatements n (statement s ss) = IsEvenStatement n s × AreEvenStatements n ss

abbrev mutual
  -- how often at most steps are gone back where the rounds of each fixpoint are made up to the last: once for a formula on the next
  -- states; for a fixpoint once more than its rounds, and once more for a question about steps; twice as often for termination
  pub steps_back : ℕ → Statement → ℕ
  steps_back last (rows lists) = 0
  steps_back last (here l) = 0
  steps_back last (elsewhere l) = 0
  steps_back last ends = (last + 2) + (last + 2)
  steps_back last never_ends = (last + 2) + (last + 2)
  steps_back last (each_of ss) = all_steps_back last ss
  steps_back last (one_of ss) = all_steps_back last ss
  steps_back last (after path s) = (last + 2) + steps_back last s
  steps_back last (along path shape s t) = (last + 2) + (steps_back last s + steps_back last t)
  steps_back last unsaid = 0

  pub all_steps_back : ℕ → Statements → ℕ
  all_steps_back last no_statement = 0
  all_steps_back last (statement s ss) = steps_back last s + all_steps_back last ss

abbrev mutual
  -- how many subformulas it has, with itself
  pub size : Statement → ℕ
  size (rows lists) = 1
  size (here l) = 1
  size (elsewhere l) = 1
  size ends = 1
  size never_ends = 1
  size (each_of ss) = 1 + total_size ss
  size (one_of ss) = 1 + total_size ss
  size (after path s) = 1 + size s
  size (along path shape s t) = 1 + (size s + size t)
  size unsaid = 1

  pub total_size : Statements → ℕ
  total_size no_statement = 0
  total_size (statement s ss) = size s + total_size ss

-- whatever formula the statement is of, the node shows it where its pieces are, which are those of the region
abbrev pub IsPartFor : CaseSystem → Statement → Region → Node → Type 0
IsPartFor about s region node = (f : Property) → States about s f → IsPart about f region node

-- one for each statement, in order
abbrev pub ArePartsFor : CaseSystem → Statements → List Region → List Node → Type 0
ArePartsFor about ss regions nodes = (fs : Properties) → ss ≡ stated_all (comparison_lists about.variables) fs → AreParts about fs regions nodes

-- whatever formula the statement is of, the region lacks only states where it fails, if its comparisons have rows
abbrev pub IsFullFor : CaseSystem → Statement → Region → Type 0
IsFullFor about s region = (f : Property) → States about s f → HasRows about.variables f → IsFull about f region

-- and then it has exactly the states where the formula holds
abbrev pub IsExactFor : CaseSystem → Statement → Region → Type 0
IsExactFor about s region = (f : Property) → States about s f → HasRows about.variables f → IsExactly about f region

-- what a test states
abbrev pub test_statement : Test → Statement
test_statement (Rows lists) = rows (map (λ v. v.items) lists.now)
test_statement (Here l) = here l
test_statement (Elsewhere l) = elsewhere l

-- a refusal is of regions that are made of the atoms of the formula, or of the ranks of the program
abbrev pub IsRefusedFor : CaseSystem → Budget → ℕ → Statement → PreFault → Type 0
IsRefusedFor about budget last s fault = IsPreFault about s budget (steps_back last s) fault

-- ---- what a gap of a formula says

-- each row of the comparisons in the statement is a difference
abbrev pub AreAtomsOfDifferences : Statement → Type 0
AreAtomsOfDifferences s = (lists : List (List Linear)) (r : Linear) → HasAtom s (rows lists) → InSome lists r → IsDifference r

-- going back is exact for all that is made of the statement: no case has a draw, or the cases and the comparisons are of differences
abbrev pub IsTameStatement : CaseSystem → Statement → Type 0
IsTameStatement about s = HasNoDraws about ⊎ (AreOfDifferences about × AreAtomsOfDifferences s)

-- The property with this number is a fixpoint, or termination or its negation, that round k does not settle. Where it can be told whether a
-- state has a step, round k does not settle its negation either. If it is to come to its end on every run, or is termination or its negation,
-- the ranks of the program do not serve for it.
pub record IsOpenAt (about : CaseSystem) (k : ℕ) (fs : List Property) (place : ℕ) : Type 0 where
  pub part : Property
  pub there : slice_get fs place ≡ Some part
  pub unsettled : IsUnsettled about k part
  pub denied : Decides about (Goes about) → IsUnsettled about k (negation part)
  pub unserved : IsUnserved about part

-- going back is not exact for all that is made of the statement, which is not of one state
pub record IsWildStatement (about : CaseSystem) (s : Statement) : Type 0 where
  pub wild : IsTameStatement about s → ⊥
  pub moves : IsLocalStatement s → ⊥

-- what a gap says of the formula that the statement is of, where rounds are made up to the last and each comparison has rows: going back is
-- not exact, or the last round does not settle the subformula with the number
abbrev pub IsGapFor : CaseSystem → ℕ → Statement → Gap → Type 0
IsGapFor about last s Inexact = IsWildStatement about s
IsGapFor about last s (Open place) = (f : Property) → States about s f → HasRows about.variables f → IsOpenAt about last (subformulas f) place

-- the same of the arguments of a formula, which has the number 0
abbrev pub IsGapAmong : CaseSystem → ℕ → Statements → Gap → Type 0
IsGapAmong about last ss Inexact = IsWildStatement about (each_of ss)
IsGapAmong about last ss (Open place) =
    (f : Property) (fs : Properties) → ss ≡ stated_all (comparison_lists about.variables) fs → AllHaveRows about.variables fs
    → IsOpenAt about last (f ∷ all_subformulas fs) place

-- no case has a draw, and the cases have no cycle
pub record IsPlainProgram (about : CaseSystem) : Type 0 where
  pub draws : HasNoDraws about
  pub acyclic : HasCycle about → ⊥

-- there no gap of the formula is reported, if each comparison has rows
abbrev pub HasNoGapIfPlain : CaseSystem → Statement → Option Gap → Type 0
HasNoGapIfPlain about s gap =
    IsPlainProgram about → (f : Property) → States about s f → HasRows about.variables f → gap ≡ None

-- the gap of the states before a region: going back into it is not exact
abbrev pub IsWildStep : CaseSystem → Region → Gap → Type 0
IsWildStep about into gap = (gap ≡ Inexact) × (IsTameFor about into into → ⊥)

-- what is found of a formula where rounds are made up to the last
pub record IsFound (about : CaseSystem) (last : ℕ) (s : Statement) (found : Found) : Type 0 where
  pub over : IsRegion about.variables about.locations found.part.region
  pub shows : IsPartFor about s found.part.region found.part.node
  pub built : IsBuilt about s (steps_back last s) found.part.region
  pub size : found.size ≡ size s
  pub gap : IfSome found.gap (IsGapFor about last s)
  pub full : found.gap ≡ None → IsFullFor about s found.part.region
  pub bounded : IsFewFor about s found.part.region

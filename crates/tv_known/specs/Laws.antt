-- What is proved of rounds, rankings and sizes.
use Rattle.std.specs.Prelude.{◌≡◌, ◌⊎◌, ℕ, ◌+◌, ◌<◌, ◌≤◌, List, ◌++◌, length, All, Contains, Bool, true, false, IsTrue}
use Rattle.tv_program.specs.Systems.{System}
use Rattle.tv_program.specs.Steps.{State, Steps}
use Rattle.tv_formula.specs.declared.tree.Path.{Path}
use Rattle.tv_formula.specs.declared.tree.Path.TheVariants.{Every, Any}
use Rattle.tv_formula.specs.declared.tree.Shape.{Shape}
use Rattle.tv_formula.specs.declared.tree.Shape.TheVariants.{Until, Weak, Release, Strong}
use Rattle.tv_formula.specs.Properties.{Property, fix, term}
use Rattle.tv_formula.specs.Forms.{is_local, is_normal}
use Rattle.tv_formula.specs.Normal.{normal, negation}
use Rattle.tv_cases.specs.LinearCases.{LinearCase, CaseSystem, CaseSteps, IsCase}
use Rattle.tv_cases.specs.Answers.{HaveSameSteps, IsOfProgram}
use Rattle.tv_program.specs.Runs.{Ends}
use Rattle.tv_meaning.specs.Meaning.{Holds}
use Rattle.tv_known.specs.Cycles.{IsStateOf, IsInitialAt}
use Rattle.tv_known.specs.Ranking.{HasLexicographicRanking}
use Rattle.tv_known.specs.Rounds.{HoldSide, EndSides, Goes, must_end, RoundBy, Round, SidesHold, IsSettled}
use Rattle.tv_known.specs.Known.{Known}
use Rattle.tv_known.specs.Subformulas.{subformulas}
use Rattle.tv_known.specs.Sizes.{some_count, all_count, stop_count, round_count, count, size_bound}

-- each case leads between the locations, and its rows are over the variables and its draws
abbrev pub AreProper : CaseSystem → Type 0
AreProper about = All (IsCase about.variables about.locations) about.cases

-- the cases are those of the program, and step as it does
pub record AreCasesOf (p : System) (about : CaseSystem) : Type 0 where
  pub same : IsOfProgram p about
  pub steps : HaveSameSteps p about
  pub cases : AreProper about

-- ---- rankings

-- every run from each state ends
abbrev pub EveryRunEnds : CaseSystem → Type 0
EveryRunEnds about = (s : State) → length s.values ≡ about.variables → Ends (CaseSteps about) s

-- no list of steps is endless
abbrev pub NoneIsEndless : CaseSystem → Type 0
NoneIsEndless about = (run : ℕ → State) → length (run 0).values ≡ about.variables → ((n : ℕ) → CaseSteps about (run n) (run (n + 1))) → ⊥

-- `term` holds at each state of the program
abbrev pub ProgramEnds : System → Type 0
ProgramEnds p = (s : State) → length s.values ≡ length p.variables → Holds (Steps p) term s

abbrev pub MustReach : Shape → Type 0
MustReach Until = Unit {0}
MustReach Strong = Unit {0}
MustReach Weak = ⊥
MustReach Release = ⊥

-- each state is at the end of the fixpoint of two properties, or on its way with a step
abbrev pub GoesOn : CaseSystem → Shape → Property → Property → Type 0
GoesOn about shape left right =
    (s : State) → IsStateOf about s → EndSides shape (λ t. Holds (CaseSteps about) left t) (λ t. Holds (CaseSteps about) right t) s
    ⊎ (HoldSide shape (λ t. Holds (CaseSteps about) left t) (λ t. Holds (CaseSteps about) right t) s × Goes about s)

-- the property must reach its end on every run; its sides are properties of one state, each state is at the end or holds and has a step, and
-- the cases have a lexicographic ranking
pub record IsRankedUntil (about : CaseSystem) (f : Property) : Type 0 where
  pub shape : Shape
  pub must : MustReach shape
  pub left : Property
  pub right : Property
  pub same : normal f ≡ fix Every shape left right
  pub left_local : IsTrue (is_local left)
  pub right_local : IsTrue (is_local right)
  pub ranking : HasLexicographicRanking about
  pub goes : GoesOn about shape left right

-- ---- rounds

-- it can be told whether a state of the program is in the set
abbrev pub Decides : CaseSystem → (State → Type 0) → Type 0
Decides about p = (s : State) → IsStateOf about s → p s ⊎ (¬ (p s))

-- what has to be told, for each state where the fixpoint holds to be in a settled round
abbrev pub CanTellBy : Bool → CaseSystem → Path → (State → Type 0) → (State → Type 0) → ℕ → Type 0
CanTellBy true about path hold end k = Unit {0}
CanTellBy false about Every hold end k = Decides about end
CanTellBy false about Any hold end k = Decides about hold × Decides about (Goes about) × Decides about (RoundBy false (CaseSteps about) Any hold end k)

abbrev pub CanTell : CaseSystem → Path → Shape → (State → Type 0) → (State → Type 0) → ℕ → Type 0
CanTell about path shape hold end k = CanTellBy (must_end shape) about path hold end k

-- in a settled round are only states where the fixpoint holds
abbrev pub SettledIsRight : CaseSystem → Path → Shape → (State → Type 0) → (State → Type 0) → ℕ → Type 0
SettledIsRight about path shape hold end k =
    IsSettled about path shape hold end k → (s : State) → IsStateOf about s → Round about path shape hold end k s → SidesHold about path shape hold end s

-- and all of them
abbrev pub SettledHasAll : CaseSystem → Path → Shape → (State → Type 0) → (State → Type 0) → ℕ → Type 0
SettledHasAll about path shape hold end k =
    IsSettled about path shape hold end k → CanTell about path shape hold end k → (s : State) → IsStateOf about s → SidesHold about path shape hold end s
    → Round about path shape hold end k s

-- where the rounds tell of a state, the property holds there
abbrev pub KnownHolds : CaseSystem → Property → Type 0
KnownHolds about f = IsTrue (is_normal f) → (last : ℕ) (s : State) → IsStateOf about s → Known about last f s → Holds (CaseSteps about) f s

-- the same of the steps of a program
abbrev pub KnownHoldsIn : System → CaseSystem → Property → Type 0
KnownHoldsIn p about f = IsTrue (is_normal f) → (last : ℕ) (s : State) → IsStateOf about s → Known about last f s → Holds (Steps p) f s

-- ---- sizes

-- the property is a subformula of the normal form or of the negation
abbrev pub StandsIn : Property → Property → Type 0
StandsIn f part = Contains (subformulas (normal f) ++ subformulas (negation f)) part

-- the count of each subformula at each location is at most the size
abbrev pub SizeBoundsCounts : CaseSystem → ℕ → Property → Type 0
SizeBoundsCounts about last f = (part : Property) (l : ℕ) → StandsIn f part → l < about.locations → count about.cases last part l ≤ size_bound about last f

-- and so is that of each round of each fixpoint, up to the last
abbrev pub SizeBoundsRounds : CaseSystem → ℕ → Property → Type 0
SizeBoundsRounds about last f =
    (path : Path) (shape : Shape) (left right : Property) (k l : ℕ) → StandsIn f (fix path shape left right) → k ≤ last → l < about.locations
    → round_count about.cases path shape (count about.cases last left) (count about.cases last right) k l ≤ size_bound about last f

-- the pieces at the end of a case, and its guards, count where it starts
pub record EachCaseCounts (cases : List LinearCase) (count : ℕ → ℕ) (c : LinearCase) : Type 0 where
  pub some : count c.to ≤ some_count cases count c.from
  pub all : length c.guards + count c.to ≤ all_count cases count c.from
  pub stop : length c.guards ≤ stop_count cases c.from

-- ---- recurrences

-- some state at the start begins a run without an end
abbrev pub SomeNeverEnds : CaseSystem → Type 0
SomeNeverEnds about = (s : State) × IsInitialAt about s × (Ends (CaseSteps about) s → ⊥)

-- The components of the location graph, each with its rounds.
use Rattle.std.specs.Prelude.{◌≡◌, ℕ, suc, ◌≤◌, List, [], ◌∷◌, length, map, get_or, ℤ, Bool}
use Rattle.tv_linear.specs.declared.region.Piece.{Piece}
use Rattle.tv_simplex.specs.declared.fault.SolveFault.{SolveFault}
use Rattle.tv_cases.specs.LinearCases.{CaseSystem}
use Rattle.tv_cases.specs.Systems.{cases_of}
use Rattle.tv_rank.specs.declared.name.Name.{Name}
use Rattle.tv_rank.specs.declared.name.Name.TheVariants as name
use Rattle.tv_rank.specs.Given.{lists}
use Rattle.tv_lexrank.specs.declared.component.Component.{Component}
use Rattle.tv_lexrank.specs.declared.fault.RankFault.{RankFault}
use Rattle.tv_lexrank.specs.declared.fault.RankFault.TheVariants as fault
use Rattle.tv_lexrank.specs.declared.round.Round.{Round}
use Rattle.tv_lexrank.specs.Parts as unmarked
use Rattle.tv_lexrank.specs.Parts.{AreTakenOut}
use Rattle.tv_lexrank.specs.Sorting.{IsSorted, NamesInside}
use Rattle.tv_finitely.specs.declared.attempt.Attempt.{Attempt}
use Rattle.tv_finitely.specs.declared.attempt.Attempt.TheVariants as attempt
use Rattle.tv_finitely.specs.declared.part.Part.{Part}
use Rattle.tv_finitely.specs.declared.part.Parted.{Parted}
use Rattle.tv_finitely.specs.declared.part.Parted.TheVariants.{Done, Stuck}
use Rattle.tv_finitely.specs.Rounds.{SomeEnters, AreEnough, NamesRound}
use Rattle.tv_finitely.specs.Splits.{SplitSystem}

-- ---- one component
-- the cases inside a component are sorted, and rounds take out those with a rational point until none that is left enters
pub record IsPartOf (about : CaseSystem) (marks : List Bool) (known : List Piece) (numbers : List ℕ) (component : ℕ) (p : Part) : Type 0 where
  pub sorted : IsSorted about known numbers component (length about.cases) p.sorted
  pub enough : AreEnough about known marks p.sorted.set.items p.rounds.items

-- A set of cases of which one enters and that no family of terms ranks: it ascends, and lies inside one component; each case of it has a
-- rational point, and for each case of it there is a barrier of the ranking system in which it falls, and no family over the rationals does.
pub record IsStuckOf (about : CaseSystem) (marks : List Bool) (known : List Piece) (set : List ℕ) (barriers : List (List ℤ)) : Type 0 where
  pub enters : SomeEnters marks set
  pub stuck : unmarked.IsStuck about known set barriers

abbrev pub IsParted : CaseSystem → List Bool → List Piece → List ℕ → ℕ → Parted → Type 0
IsParted about marks known numbers component (Done p) = IsPartOf about marks known numbers component p
IsParted about marks known numbers component (Stuck set barriers) = IsStuckOf about marks known set.items (lists barriers.items)

-- A refusal is of the system that it names: of the rows that are met where a case inside the component is taken, or of what some rounds
-- leave of the cases inside it with a rational point, some of which enters.
abbrev pub NamesPart : CaseSystem → List Bool → List Piece → List ℕ → ℕ → ℕ → Name → SolveFault → Type 0
NamesPart about marks known numbers component pivots (name.Empty k) e = NamesInside about known numbers component pivots (name.Empty k) e
NamesPart about marks known numbers component pivots (name.Rank c round falling) e =
    (set : List ℕ) × AreTakenOut about known numbers component set × NamesRound about known marks set pivots component (name.Rank c round falling) e
NamesPart about marks known numbers component pivots (name.Rows rows) e = NamesInside about known numbers component pivots (name.Rows rows) e
NamesPart about marks known numbers component pivots (name.Later s falling) e =
    (set : List ℕ) × AreTakenOut about known numbers component set × NamesRound about known marks set pivots component (name.Later s falling) e

abbrev pub RefusesPart : CaseSystem → List Bool → List Piece → List ℕ → ℕ → ℕ → RankFault → Type 0
RefusesPart about marks known numbers component pivots (fault.Solve system e) = NamesPart about marks known numbers component pivots system e
RefusesPart about marks known numbers component pivots (fault.Open taken values) = ⊥
RefusesPart about marks known numbers component pivots (fault.Cover f) = ⊥
RefusesPart about marks known numbers component pivots fault.Memory = Unit {0}

abbrev pub IsPartedIn : Component → List Bool → Parted → Type 0
IsPartedIn c marks p = IsParted (cases_of c.about.now) marks c.known.now.pieces.items c.numbers.now c.number p

abbrev pub RefusesPartIn : Component → List Bool → RankFault → Type 0
RefusesPartIn c marks e = RefusesPart (cases_of c.about.now) marks c.known.now.pieces.items c.numbers.now c.number c.pivots e

-- ---- all components
abbrev pub IsPart : SplitSystem → List Piece → List ℕ → ℕ → Part → Type 0
IsPart s known numbers component p = IsPartOf s.system s.enters known numbers component p

abbrev pub IsStuck : SplitSystem → List Piece → List ℕ → List (List ℤ) → Type 0
IsStuck s known set barriers = IsStuckOf s.system s.enters known set barriers

-- the parts are those of the components from one on
abbrev pub PartsFrom : SplitSystem → List Piece → List ℕ → ℕ → List Part → Type 0
PartsFrom s known numbers c [] = Unit {0}
PartsFrom s known numbers c (p ∷ ps) = IsPart s known numbers c p × PartsFrom s known numbers (suc c) ps

-- the rounds of a component
abbrev pub rounds_in : List Part → ℕ → List Round
rounds_in parts c = get_or (map (λ p. p.rounds.items) parts) c []

-- no component has more rounds than a program has cases
abbrev pub AreFew : List Part → Type 0
AreFew parts = (number : ℕ) → length (rounds_in parts number) ≤ 8192

-- each component has its rounds, or a set of cases is stuck
abbrev pub IsAttempt : SplitSystem → List Piece → List ℕ → ℕ → Attempt → Type 0
IsAttempt s known numbers count (attempt.Whole parts) = (length parts.items ≡ count) × PartsFrom s known numbers 0 parts.items
IsAttempt s known numbers count (attempt.Stuck set barriers) = IsStuck s known set.items (lists barriers.items)

-- the components with lesser numbers have their rounds
abbrev pub AreDoneBefore : SplitSystem → List Piece → List ℕ → ℕ → Type 0
AreDoneBefore s known numbers component = (parts : List Part) × (length parts ≡ component) × PartsFrom s known numbers 0 parts

-- a refusal is of the system that it names, of the first component that is not done
abbrev pub RefusesAttempt : SplitSystem → List Piece → List ℕ → ℕ → RankFault → Type 0
RefusesAttempt s known numbers pivots (fault.Solve system e) =
    (component : ℕ) × NamesPart s.system s.enters known numbers component pivots system e × AreDoneBefore s known numbers component
RefusesAttempt s known numbers pivots (fault.Open taken values) = ⊥
RefusesAttempt s known numbers pivots (fault.Cover f) = ⊥
RefusesAttempt s known numbers pivots fault.Memory = Unit {0}

use Rattle.std.specs.Prelude.{◌≡◌, ℕ, ◌<◌, List, length, get_or, ℤ}
use Rattle.tv_linear.specs.declared.region.Piece.{Piece}
use Rattle.tv_rank.specs.Sets.{PointsOf}
use Rattle.tv_cases.specs.LinearCases.{CaseSystem}
use Rattle.tv_rank.specs.Given.{lists}
use Rattle.tv_rank.specs.declared.name.Name.{Name}
use Rattle.tv_rank.specs.declared.name.Name.TheVariants as name
use Rattle.tv_simplex.specs.declared.fault.SolveFault.{SolveFault}
use Rattle.tv_lexrank.specs.declared.fault.RankFault.{RankFault}
use Rattle.tv_lexrank.specs.declared.fault.RankFault.TheVariants as fault
use Rattle.tv_cases.specs.Systems.{cases_of}
use Rattle.tv_lexrank.specs.declared.component.Component.{Component}
use Rattle.tv_lexrank.specs.declared.part.Part.{Part}
use Rattle.tv_lexrank.specs.declared.part.Parted.{Parted}
use Rattle.tv_lexrank.specs.declared.part.Parted.TheVariants.{Done, Stuck}
use Rattle.tv_lexrank.specs.Greedy.{AreBarriers, IsNamed}
use Rattle.tv_known.specs.Cycles.{AreTogether}
use Rattle.tv_known.specs.Ranking.{AreInside}
use Rattle.tv_lexrank.specs.Rounds.{Chain}
use Rattle.tv_lexrank.specs.Sorting.{Ascends, IsSorted, NamesInside, AreSorted}

-- the cases inside a component are sorted, and rounds take out all those with a rational point
pub record IsPart (about : CaseSystem) (known : List Piece) (numbers : List ℕ) (component : ℕ) (p : Part) : Type 0 where
  pub sorted : IsSorted about known numbers component (length about.cases) p.sorted
  pub chain : Chain about known p.sorted.set.items p.rounds.items

-- A set of cases that no family of terms ranks: it is not empty, ascends, and lies inside one component; each case of it has a rational
-- point, and for each case of it there is a barrier of the ranking system in which it falls, and no family over the rationals does.
pub record IsStuck (about : CaseSystem) (known : List Piece) (set : List ℕ) (barriers : List (List ℤ)) : Type 0 where
  pub nonempty : 0 < length set
  pub ascends : Ascends set
  pub inside : AreInside about set
  pub points : PointsOf about known set
  pub each_barred : AreBarriers about known set barriers

abbrev pub IsParted : CaseSystem → List Piece → List ℕ → ℕ → Parted → Type 0
IsParted about known numbers component (Done p) = IsPart about known numbers component p
IsParted about known numbers component (Stuck set barriers) = IsStuck about known set.items (lists barriers.items)

abbrev pub IsDone : Parted → Type 0
IsDone (Done p) = Unit {0}
IsDone (Stuck set barriers) = ⊥

-- locations with one number reach each other
abbrev pub AreGrouped : CaseSystem → List ℕ → Type 0
AreGrouped about numbers = (s t : ℕ) → s < about.locations → t < about.locations → get_or numbers s 0 ≡ get_or numbers t 0 → AreTogether about.cases s t

-- the cases inside the component with a rational point
abbrev pub AreTakenOut : CaseSystem → List Piece → List ℕ → ℕ → List ℕ → Type 0
AreTakenOut about known numbers component set =
    (empty : List ℕ) × (refutations : List (List ℤ)) × AreSorted about known numbers component (length about.cases) set empty refutations

-- A refusal is of the system that it names: of the rows that are met where a case inside the component is taken, or of what some rounds
-- leave of the cases inside it with a rational point.
abbrev pub NamesPart : CaseSystem → List Piece → List ℕ → ℕ → ℕ → Name → SolveFault → Type 0
NamesPart about known numbers component pivots (name.Empty k) e = NamesInside about known numbers component pivots (name.Empty k) e
NamesPart about known numbers component pivots (name.Rank c round falling) e =
    (set : List ℕ) × AreTakenOut about known numbers component set × IsNamed about known set pivots component (name.Rank c round falling) e
NamesPart about known numbers component pivots (name.Rows rows) e = NamesInside about known numbers component pivots (name.Rows rows) e
NamesPart about known numbers component pivots (name.Later s falling) e =
    (set : List ℕ) × AreTakenOut about known numbers component set × IsNamed about known set pivots component (name.Later s falling) e

abbrev pub RefusesPart : CaseSystem → List Piece → List ℕ → ℕ → ℕ → RankFault → Type 0
RefusesPart about known numbers component pivots (fault.Solve system e) = NamesPart about known numbers component pivots system e
RefusesPart about known numbers component pivots (fault.Open taken values) = ⊥
RefusesPart about known numbers component pivots (fault.Cover f) = ⊥
RefusesPart about known numbers component pivots fault.Memory = Unit {0}

abbrev pub IsPartedIn : Component → Parted → Type 0
IsPartedIn c p = IsParted (cases_of c.about.now) c.known.now.pieces.items c.numbers.now c.number p

abbrev pub RefusesPartIn : Component → RankFault → Type 0
RefusesPartIn c e = RefusesPart (cases_of c.about.now) c.known.now.pieces.items c.numbers.now c.number c.pivots e

-- What is answered of one component.
use Rattle.std.specs.Prelude.{◌≡◌, ℕ, ◌<◌, List, length, ℤ}
use Rattle.tv_linear.specs.declared.region.Piece.{Piece}
use Rattle.tv_cases.specs.LinearCases.{CaseSystem}
use Rattle.tv_cases.specs.Systems.{cases_of}
use Rattle.tv_simplex.specs.declared.fault.SolveFault.{SolveFault}
use Rattle.tv_simplex.specs.declared.fault.SolveFault.TheVariants.{Width, Scale, Pivots, Size, Memory}
use Rattle.tv_rank.specs.Given.{lists}
use Rattle.tv_rank.specs.Sets.{PointsOf}
use Rattle.tv_rank.specs.declared.name.Name.{Name}
use Rattle.tv_rank.specs.declared.name.Name.TheVariants as name
use Rattle.tv_lexrank.specs.declared.component.Component.{Component}
use Rattle.tv_lexrank.specs.declared.fault.RankFault.{RankFault}
use Rattle.tv_lexrank.specs.declared.fault.RankFault.TheVariants as rank
use Rattle.tv_lexrank.specs.declared.round.Round.{Round}
use Rattle.tv_lexrank.specs.declared.sorting.Sorted.{Sorted}
use Rattle.tv_lexrank.specs.Greedy.{Lead, AreBarriers}
use Rattle.tv_lexrank.specs.Parts.{NamesPart}
use Rattle.tv_nested.specs.declared.fault.NestName.{NestName}
use Rattle.tv_nested.specs.declared.fault.NestName.TheVariants as named
use Rattle.tv_nested.specs.declared.fault.NestFault.{NestFault}
use Rattle.tv_nested.specs.declared.fault.NestFault.TheVariants as fault
use Rattle.tv_nested.specs.declared.parted.Parted.{Parted}
use Rattle.tv_nested.specs.declared.parted.Parted.TheVariants.{Done, Stuck}
use Rattle.tv_nested.specs.Nested.{AreBarredDepths, RefusesDepth}
use Rattle.tv_nested.specs.Parts.{IsNestedPart, IsLeft}

-- the component has terms, or its rounds leave a set over which none are nested
abbrev pub IsParted : CaseSystem → List Piece → List ℕ → ℕ → Parted → Type 0
IsParted about known numbers component (Done p) = IsNestedPart about known numbers component p
IsParted about known numbers component (Stuck set barriers) =
    IsLeft about known numbers component set.items × AreBarredDepths about known set.items (lists barriers.items)

abbrev pub IsPartedIn : Component → Parted → Type 0
IsPartedIn c p = IsParted (cases_of c.about.now) c.known.now.pieces.items c.numbers.now c.number p

-- the rounds lead from a set to another, which is stuck
pub record IsLeftBy (about : CaseSystem) (known : List Piece) (set : List ℕ) (rounds : List Round) (left : List ℕ) : Type 0 where
  pub lead : Lead about known set rounds left
  pub some : 0 < length left
  pub points : PointsOf about known left
  pub barriers : List (List ℤ)
  pub barred : AreBarriers about known left barriers

abbrev pub IsLeftIn : Component → Sorted → List Round → List ℕ → Type 0
IsLeftIn c s rounds left = IsLeftBy (cases_of c.about.now) c.known.now.pieces.items s.set.items rounds left

-- ---- refusals
-- a refusal is of the system that it names, on the way to the terms of the component
abbrev pub NamesNested : CaseSystem → List Piece → List ℕ → ℕ → ℕ → NestName → SolveFault → Type 0
NamesNested about known numbers component pivots (named.Empty k) e = NamesPart about known numbers component pivots (name.Empty k) e
NamesNested about known numbers component pivots (named.Rank c round falling) e =
    (c ≡ component) × NamesPart about known numbers component pivots (name.Rank c round falling) e
NamesNested about known numbers component pivots (named.Nest c d) e =
    (c ≡ component) × ((set : List ℕ) × IsLeft about known numbers component set × RefusesDepth about known set pivots d e)

abbrev pub RefusesParted : CaseSystem → List Piece → List ℕ → ℕ → ℕ → NestFault → Type 0
RefusesParted about known numbers component pivots (fault.Solve system e) = NamesNested about known numbers component pivots system e
RefusesParted about known numbers component pivots (fault.Cover f) = ⊥
RefusesParted about known numbers component pivots fault.Memory = Unit {0}

abbrev pub RefusesPartedIn : Component → NestFault → Type 0
RefusesPartedIn c e = RefusesParted (cases_of c.about.now) c.known.now.pieces.items c.numbers.now c.number c.pivots e

-- ---- refusals of rounds where no rows are known
abbrev pub IsBareName : Name → Type 0
IsBareName (name.Empty k) = Unit {0}
IsBareName (name.Rank component round falling) = Unit {0}
IsBareName (name.Rows rows) = ⊥
IsBareName (name.Later set falling) = ⊥

abbrev pub IsBareFault : RankFault → Type 0
IsBareFault (rank.Open taken values) = ⊥
IsBareFault (rank.Cover f) = ⊥
IsBareFault (rank.Solve system e) = IsBareName system
IsBareFault rank.Memory = Unit {0}

-- the same name of a system, where no rows are known
abbrev pub IsSameName : Name → NestName → Type 0
IsSameName (name.Empty k) (named.Empty n) = n ≡ k
IsSameName (name.Empty k) (named.Rank c r f) = ⊥
IsSameName (name.Empty k) (named.Nest c d) = ⊥
IsSameName (name.Rank component round falling) (named.Empty n) = ⊥
IsSameName (name.Rank component round falling) (named.Rank c r f) = (c ≡ component) × (r ≡ round) × (f ≡ falling)
IsSameName (name.Rank component round falling) (named.Nest c d) = ⊥
IsSameName (name.Rows rows) n = ⊥
IsSameName (name.Later set falling) n = ⊥

-- the same refusal, on the way to nested terms
abbrev pub IsToldAs : RankFault → NestFault → Type 0
IsToldAs (rank.Open taken values) x = ⊥
IsToldAs (rank.Cover f) x = ⊥
IsToldAs (rank.Solve system e) (fault.Solve n g) = IsSameName system n × (g ≡ e)
IsToldAs (rank.Solve system e) (fault.Cover f) = ⊥
IsToldAs (rank.Solve system e) fault.Memory = ⊥
IsToldAs rank.Memory (fault.Solve n g) = ⊥
IsToldAs rank.Memory (fault.Cover f) = ⊥
IsToldAs rank.Memory fault.Memory = Unit {0}

-- what is reported of the named system: its fault, or want of memory, which is none of it
abbrev pub refusal_of : NestName → SolveFault → NestFault
refusal_of system (Width basis row column) = fault.Solve system (Width basis row column)
refusal_of system (Scale basis) = fault.Solve system (Scale basis)
refusal_of system (Pivots bases) = fault.Solve system (Pivots bases)
refusal_of system (Size height width) = fault.Solve system (Size height width)
refusal_of system Memory = fault.Memory

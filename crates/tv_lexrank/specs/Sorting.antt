use Rattle.std.specs.Prelude.{◌≡◌, ◌⊎◌, ℕ, ◌+◌, ◌<◌, List, [], length, get_or, ℤ, Option, MatchOption, Vec, All}
use Rattle.std.specs.Global.{Global}
use Rattle.tv_linear.specs.Linear.{Linear, IsScaledPoint, IsWithin}
use Rattle.tv_linear.specs.Known.{as_given}
use Rattle.tv_linear.specs.Refutation.{Refutes}
use Rattle.tv_linear.specs.declared.region.Piece.{Piece}
use Rattle.tv_cases.specs.LinearCases.{LinearCase, CaseSystem}
use Rattle.tv_cases.specs.Systems.{cases_of}
use Rattle.tv_simplex.specs.declared.fault.SolveFault.{SolveFault}
use Rattle.tv_farkas.specs.Paths.{TakenOnce}
use Rattle.tv_farkas.specs.Refuting.{IsSystemFault}
use Rattle.tv_rank.specs.declared.name.Name.{Name}
use Rattle.tv_rank.specs.declared.name.Name.TheVariants as name
use Rattle.tv_rank.specs.Given.{lists, AreNumbered}
use Rattle.tv_rank.specs.Rankings.{HasPoint}
use Rattle.tv_rank.specs.Sets.{PointsOf}
use Rattle.tv_rank.specs.Ways.{Way, case_at, way_of}
use Rattle.tv_lexrank.specs.declared.fault.RankFault.{RankFault}
use Rattle.tv_lexrank.specs.declared.fault.RankFault.TheVariants as fault
use Rattle.tv_lexrank.specs.declared.component.Component.{Component}
use Rattle.tv_lexrank.specs.declared.sorting.Sorted.{Sorted}
use Rattle.tv_lexrank.specs.Known.{AreBare, HaveRows, way_rows, padded_rows}

-- multipliers, which are below 2^62, that refute the rows; or the rows have a rational point
abbrev pub IsSettled : ℕ → List Linear → Option (Vec ℤ Global) → Type 0
IsSettled n rows o =
    MatchOption o ((xs : List ℤ) × (z : ℤ) × (length xs ≡ n) × IsScaledPoint rows xs z)
    (λ m. Refutes n (as_given rows) m.items × All (IsWithin 62) m.items)

-- the same of the rows that are met where a way is taken
abbrev pub IsTaken : ℕ → Way → Option (Vec ℤ Global) → Type 0
IsTaken v w o = MatchOption o (HasPoint v w) (λ m. Refutes (v + w.taken.draws) (way_rows w) m.items × All (IsWithin 62) m.items)

-- the refutation system of the guards of a case, which is named by the case, has the fault
abbrev pub NamesGuards : ℕ → List Linear → ℕ → ℕ → Name → SolveFault → Type 0
NamesGuards n rows pivots k (name.Empty number) e = (number ≡ k) × IsSystemFault n rows pivots e
NamesGuards n rows pivots k (name.Rank c round falling) e = ⊥
NamesGuards n rows pivots k (name.Rows rs) e = ⊥
NamesGuards n rows pivots k (name.Later s falling) e = ⊥

abbrev pub RefusesGuards : ℕ → List Linear → ℕ → ℕ → RankFault → Type 0
RefusesGuards n rows pivots k (fault.Solve system e) = NamesGuards n rows pivots k system e
RefusesGuards n rows pivots k (fault.Open taken values) = ⊥
RefusesGuards n rows pivots k (fault.Cover f) = ⊥
RefusesGuards n rows pivots k fault.Memory = Unit {0}

-- a refusal of the refutation system of rows, each taken once, which is named by these
abbrev pub NamesRows : ℕ → List Linear → ℕ → Name → SolveFault → Type 0
NamesRows n rows pivots (name.Empty number) e = ⊥
NamesRows n rows pivots (name.Rank c round falling) e = ⊥
NamesRows n rows pivots (name.Rows kept) e = TakenOnce rows kept.items × IsSystemFault n kept.items pivots e
NamesRows n rows pivots (name.Later s falling) e = ⊥

abbrev pub RefusesRows : ℕ → List Linear → ℕ → RankFault → Type 0
RefusesRows n rows pivots (fault.Solve system e) = NamesRows n rows pivots system e
RefusesRows n rows pivots (fault.Open taken values) = ⊥
RefusesRows n rows pivots (fault.Cover f) = ⊥
RefusesRows n rows pivots fault.Memory = Unit {0}

-- the case leads inside a component
abbrev pub LeadsInside : List ℕ → ℕ → LinearCase → Type 0
LeadsInside numbers component c = (get_or numbers c.from 0 ≡ component) × (get_or numbers c.to 0 ≡ component)

-- a number stands in the list
abbrev pub StandsIn : List ℕ → ℕ → Type 0
StandsIn xs k = (j : ℕ) × (j < length xs) × (get_or xs j 0 ≡ k)

-- each number is less than those after it
abbrev pub Ascends : List ℕ → Type 0
Ascends xs = (i j : ℕ) → i < j → j < length xs → get_or xs i 0 < get_or xs j 0

-- multipliers that refute the rows that are met where a way is taken
abbrev pub IsNeverTaken : ℕ → Way → List ℤ → Type 0
IsNeverTaken v w ms = Refutes (v + w.taken.draws) (way_rows w) ms

-- Of the first cases those inside the component are sorted: into those with a rational point under the known rows, and those whose rows
-- are refuted.
pub record AreSorted (about : CaseSystem) (known : List Piece) (numbers : List ℕ) (component many : ℕ) (set empty : List ℕ) (refutations : List (List ℤ)) : Type 0 where
  pub numbered : AreNumbered many set
  pub ascends : Ascends set
  pub inside : (j : ℕ) → j < length set → LeadsInside numbers component (case_at about.cases (get_or set j 0))
  pub points : PointsOf about known set
  pub counted : length refutations ≡ length empty
  pub refuted : (i : ℕ) → i < length empty → IsNeverTaken about.variables (way_of about.cases known (get_or empty i 0)) (get_or refutations i [])
  pub narrow : All (All (IsWithin 62)) refutations
  pub each : (k : ℕ) → k < many → LeadsInside numbers component (case_at about.cases k) → StandsIn set k ⊎ StandsIn empty k

abbrev pub IsSorted : CaseSystem → List Piece → List ℕ → ℕ → ℕ → Sorted → Type 0
IsSorted about known numbers component many s =
    AreSorted about known numbers component many s.set.items s.empty.items (lists s.refutations.items)

-- the multipliers at a place
abbrev pub refutation_at : Sorted → ℕ → List ℤ
refutation_at s k = get_or (lists s.refutations.items) k []

abbrev pub IsSortedIn : Component → ℕ → Sorted → Type 0
IsSortedIn c many s = IsSorted (cases_of c.about.now) c.known.now.pieces.items c.numbers.now c.number many s

-- the way of a case of the component
abbrev pub way_inside : Component → ℕ → Way
way_inside c k = way_of (cases_of c.about.now).cases c.known.now.pieces.items k

-- A refusal of the system that is asked whether a case is ever taken: where no rows are known, the refutation system of its guards, which is
-- named by the case; and else that of the known rows and the guards, each taken once, which is named by these.
abbrev pub NamesCase : CaseSystem → List Piece → ℕ → ℕ → Name → SolveFault → Type 0
NamesCase about known pivots k (name.Empty number) e =
    AreBare known × (number ≡ k) × IsSystemFault (about.variables + (case_at about.cases k).draws) (case_at about.cases k).guards pivots e
NamesCase about known pivots k (name.Rank c round falling) e = ⊥
NamesCase about known pivots k (name.Rows rows) e =
    HaveRows known × TakenOnce (padded_rows (way_of about.cases known k)) rows.items
    × IsSystemFault (about.variables + (case_at about.cases k).draws) rows.items pivots e
NamesCase about known pivots k (name.Later s falling) e = ⊥

abbrev pub RefusesCase : CaseSystem → List Piece → ℕ → ℕ → RankFault → Type 0
RefusesCase about known pivots k (fault.Solve system e) = NamesCase about known pivots k system e
RefusesCase about known pivots k (fault.Open taken values) = ⊥
RefusesCase about known pivots k (fault.Cover f) = ⊥
RefusesCase about known pivots k fault.Memory = Unit {0}

abbrev pub RefusesCaseIn : Component → ℕ → RankFault → Type 0
RefusesCaseIn c k e = RefusesCase (cases_of c.about.now) c.known.now.pieces.items c.pivots k e

-- the cases inside the component that stand before this one are sorted
abbrev pub AreSortedBefore : CaseSystem → List Piece → List ℕ → ℕ → ℕ → Type 0
AreSortedBefore about known numbers component k =
    (set : List ℕ) × (empty : List ℕ) × (refutations : List (List ℤ)) × AreSorted about known numbers component k set empty refutations

-- such a refusal of a case inside the component, where those inside that stand before it are sorted
abbrev pub NamesInside : CaseSystem → List Piece → List ℕ → ℕ → ℕ → Name → SolveFault → Type 0
NamesInside about known numbers component pivots (name.Empty k) e =
    AreBare known × (k < length about.cases) × LeadsInside numbers component (case_at about.cases k)
    × IsSystemFault (about.variables + (case_at about.cases k).draws) (case_at about.cases k).guards pivots e
    × AreSortedBefore about known numbers component k
NamesInside about known numbers component pivots (name.Rank c round falling) e = ⊥
NamesInside about known numbers component pivots (name.Rows rows) e =
    HaveRows known × ((k : ℕ) × (k < length about.cases) × LeadsInside numbers component (case_at about.cases k)
    × TakenOnce (padded_rows (way_of about.cases known k)) rows.items
    × IsSystemFault (about.variables + (case_at about.cases k).draws) rows.items pivots e
    × AreSortedBefore about known numbers component k)
NamesInside about known numbers component pivots (name.Later s falling) e = ⊥

abbrev pub RefusesSorting : CaseSystem → List Piece → List ℕ → ℕ → ℕ → RankFault → Type 0
RefusesSorting about known numbers component pivots (fault.Solve system e) = NamesInside about known numbers component pivots system e
RefusesSorting about known numbers component pivots (fault.Open taken values) = ⊥
RefusesSorting about known numbers component pivots (fault.Cover f) = ⊥
RefusesSorting about known numbers component pivots fault.Memory = Unit {0}

abbrev pub RefusesSortingIn : Component → RankFault → Type 0
RefusesSortingIn c e = RefusesSorting (cases_of c.about.now) c.known.now.pieces.items c.numbers.now c.number c.pivots e

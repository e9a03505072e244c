use Rattle.std.specs.Prelude.{◌≡◌, ℕ, zero, suc, ◌<◌, List, [], ◌∷◌, ◌++◌, length, get_or, ℤ}
use Rattle.tv_linear.specs.declared.region.Piece.{Piece}
use Rattle.tv_cases.specs.LinearCases.{CaseSystem}
use Rattle.tv_simplex.specs.Outcomes.{IsBarrierOf}
use Rattle.tv_simplex.specs.declared.fault.SolveFault.{SolveFault}
use Rattle.tv_rank.specs.declared.name.Name.{Name}
use Rattle.tv_rank.specs.declared.name.Name.TheVariants as name
use Rattle.tv_rank.specs.Given.{lists}
use Rattle.tv_rank.specs.Ways.{way_at}
use Rattle.tv_rank.specs.Rankings.{IsFamily, NoneRanks}
use Rattle.tv_rank.specs.Answers.{IsRefusal, IsSystemFault}
use Rattle.tv_rank.specs.Sets.{system_of_set, PointsOf}
use Rattle.tv_cases.specs.Systems.{cases_of}
use Rattle.tv_lexrank.specs.Known.{AreBare, HaveRows}
use Rattle.tv_lexrank.specs.declared.component.Component.{Component}
use Rattle.tv_lexrank.specs.declared.fault.RankFault.{RankFault}
use Rattle.tv_lexrank.specs.declared.fault.RankFault.TheVariants as fault
use Rattle.tv_lexrank.specs.declared.round.Round.{Round}
use Rattle.tv_lexrank.specs.declared.greedy.Turn.{Turn}
use Rattle.tv_lexrank.specs.declared.greedy.Turn.TheVariants.{Took, Stuck}
use Rattle.tv_lexrank.specs.declared.greedy.Greedy.{Greedy}
use Rattle.tv_lexrank.specs.declared.greedy.Greedy.TheVariants as greedy

-- the list without the item at a place
abbrev pub without : List ℕ → ℕ → List ℕ
without [] k = []
without (x ∷ xs) zero = xs
without (x ∷ xs) (suc k) = x ∷ without xs k

-- the round ranks this set by the first case over which some family falls
pub record IsRound (about : CaseSystem) (known : List Piece) (set : List ℕ) (round : Round) : Type 0 where
  pub set_is : round.set.items ≡ set
  pub within : round.place < length set
  pub family : IsFamily about.variables about.locations (length set) (way_at about.cases known set) round.place round.terms.items (lists round.multipliers.items)
  pub first : (k : ℕ) → k < round.place → NoneRanks about.variables (length set) (way_at about.cases known set) k

-- for each of the first cases of the set a barrier of the ranking system in which it falls, so that no family over the rationals
-- falls over it
pub record AreFirst (about : CaseSystem) (known : List Piece) (set : List ℕ) (many : ℕ) (barriers : List (List ℤ)) : Type 0 where
  pub as_many : length barriers ≡ many
  pub each : (k : ℕ) → k < many → IsBarrierOf (system_of_set about known set k) (get_or barriers k [])
  pub excluded : (k : ℕ) → k < many → NoneRanks about.variables (length set) (way_at about.cases known set) k

-- for each case of the set
abbrev pub AreBarriers : CaseSystem → List Piece → List ℕ → List (List ℤ) → Type 0
AreBarriers about known set barriers = AreFirst about known set (length set) barriers

-- the rounds lead from the first set to the second, each taking out the case that falls
pub data Lead (about : CaseSystem) (known : List Piece) : List ℕ → List Round → List ℕ → Type 0 where
  none : (set : List ℕ) → Lead about known set [] set
  more : (set left : List ℕ) (rounds : List Round) (round : Round) → Lead about known set rounds left → IsRound about known left round →
      Lead about known set (rounds ++ round ∷ []) (without left round.place)

-- what a round gives
abbrev pub IsTurn : CaseSystem → List Piece → List ℕ → Turn → Type 0
IsTurn about known set (Took round) = IsRound about known set round
IsTurn about known set (Stuck barriers) = AreBarriers about known set (lists barriers.items)

-- what the rounds give: they lead to the empty set, or to a set that is stuck
abbrev pub IsGreedy : CaseSystem → List Piece → List ℕ → Greedy → Type 0
IsGreedy about known set (greedy.Emptied rounds) = Lead about known set rounds.items []
IsGreedy about known set (greedy.Left rounds left barriers) =
    Lead about known set rounds.items left.items × (0 < length left.items) × PointsOf about known left.items × AreBarriers about known left.items (lists barriers.items)

-- A refusal of one round: the ranking system of the set, where the named case falls, has the fault, which is no want of memory; over no case
-- before it some family falls.
pub record RefusesFalling (about : CaseSystem) (known : List Piece) (set : List ℕ) (pivots falling : ℕ) (e : SolveFault) : Type 0 where
  pub place : ℕ
  pub within : place < length set
  pub is : get_or set place 0 ≡ falling
  pub before : (k : ℕ) → k < place → NoneRanks about.variables (length set) (way_at about.cases known set) k
  pub refuses : IsSystemFault (system_of_set about known set place) pivots e

-- the system is named by the component and the round where no rows are known, and else by the set
abbrev pub NamesTurn : CaseSystem → List Piece → List ℕ → ℕ → ℕ → ℕ → Name → SolveFault → Type 0
NamesTurn about known set pivots component round (name.Empty k) e = ⊥
NamesTurn about known set pivots component round (name.Rank c r falling) e =
    AreBare known × (c ≡ component) × (r ≡ round) × RefusesFalling about known set pivots falling e
NamesTurn about known set pivots component round (name.Rows rows) e = ⊥
NamesTurn about known set pivots component round (name.Later s falling) e =
    HaveRows known × (s.items ≡ set) × RefusesFalling about known set pivots falling e

-- the name of the system of a set in a round, where this case falls
abbrev pub IsNameOf : List Piece → List ℕ → ℕ → ℕ → ℕ → Name → Type 0
IsNameOf known set component round falling (name.Empty k) = ⊥
IsNameOf known set component round falling (name.Rank c r f) = AreBare known × (c ≡ component) × (r ≡ round) × (f ≡ falling)
IsNameOf known set component round falling (name.Rows rows) = ⊥
IsNameOf known set component round falling (name.Later s f) = HaveRows known × (s.items ≡ set) × (f ≡ falling)

abbrev pub IsNameIn : Component → List ℕ → ℕ → ℕ → Name → Type 0
IsNameIn c set round falling named = IsNameOf c.known.now.pieces.items set c.number round falling named

abbrev pub RefusesTurn : CaseSystem → List Piece → List ℕ → ℕ → ℕ → ℕ → RankFault → Type 0
RefusesTurn about known set pivots component round (fault.Solve system e) = NamesTurn about known set pivots component round system e
RefusesTurn about known set pivots component round (fault.Open taken values) = ⊥
RefusesTurn about known set pivots component round (fault.Cover f) = ⊥
RefusesTurn about known set pivots component round fault.Memory = Unit {0}

-- A refusal of a round: the named system is the ranking system of what `round` rounds leave of the set.
pub record RefusesRound (about : CaseSystem) (known : List Piece) (set : List ℕ) (pivots : ℕ) (round falling : ℕ) (e : SolveFault) : Type 0 where
  pub rounds : List Round
  pub as_many : length rounds ≡ round
  pub left : List ℕ
  pub lead : Lead about known set rounds left
  pub falls : RefusesFalling about known left pivots falling e

abbrev pub IsNamed : CaseSystem → List Piece → List ℕ → ℕ → ℕ → Name → SolveFault → Type 0
IsNamed about known set pivots component (name.Empty k) e = ⊥
IsNamed about known set pivots component (name.Rank c round falling) e =
    AreBare known × (c ≡ component) × RefusesRound about known set pivots round falling e
IsNamed about known set pivots component (name.Rows rows) e = ⊥
IsNamed about known set pivots component (name.Later s falling) e =
    HaveRows known × ((rounds : List Round) × Lead about known set rounds s.items × RefusesFalling about known s.items pivots falling e)

abbrev pub RefusesGreedy : CaseSystem → List Piece → List ℕ → ℕ → ℕ → RankFault → Type 0
RefusesGreedy about known set pivots component (fault.Solve system e) = IsNamed about known set pivots component system e
RefusesGreedy about known set pivots component (fault.Open taken values) = ⊥
RefusesGreedy about known set pivots component (fault.Cover f) = ⊥
RefusesGreedy about known set pivots component fault.Memory = Unit {0}

abbrev pub IsEmptied : Greedy → Type 0
IsEmptied (greedy.Emptied rounds) = Unit {0}
IsEmptied (greedy.Left rounds left barriers) = ⊥

abbrev pub RefusesTurnIn : Component → List ℕ → ℕ → RankFault → Type 0
RefusesTurnIn c set round e = RefusesTurn (cases_of c.about.now) c.known.now.pieces.items set c.pivots c.number round e

abbrev pub RefusesGreedyIn : Component → List ℕ → RankFault → Type 0
RefusesGreedyIn c set e = RefusesGreedy (cases_of c.about.now) c.known.now.pieces.items set c.pivots c.number e

abbrev pub IsTurnIn : Component → List ℕ → Turn → Type 0
IsTurnIn c set t = IsTurn (cases_of c.about.now) c.known.now.pieces.items set t

abbrev pub IsGreedyIn : Component → List ℕ → Greedy → Type 0
IsGreedyIn c set g = IsGreedy (cases_of c.about.now) c.known.now.pieces.items set g

abbrev pub PointsIn : Component → List ℕ → Type 0
PointsIn c set = PointsOf (cases_of c.about.now) c.known.now.pieces.items set

-- over none of the cases before a place some family falls
abbrev pub ForFirst : Component → List ℕ → ℕ → Type 0
ForFirst c set place = (k : ℕ) → k < place → NoneRanks (cases_of c.about.now).variables (length set) (way_at (cases_of c.about.now).cases c.known.now.pieces.items set) k

-- the ranking system of the set, where the case at a place falls, has the fault, or there is no memory
abbrev pub IsUnsolvedAt : Component → List ℕ → ℕ → SolveFault → Type 0
IsUnsolvedAt c set place e = IsRefusal (system_of_set (cases_of c.about.now) c.known.now.pieces.items set place) c.pivots e

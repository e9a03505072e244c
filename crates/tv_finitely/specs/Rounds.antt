-- Rounds that take cases out of a set, until none that is left enters.
use Rattle.std.specs.Prelude.{◌≡◌, ℕ, ◌<◌, List, length, get_or, ℤ, Bool, true, false}
use Rattle.tv_linear.specs.declared.region.Piece.{Piece}
use Rattle.tv_simplex.specs.declared.fault.SolveFault.{SolveFault}
use Rattle.tv_cases.specs.LinearCases.{CaseSystem}
use Rattle.tv_cases.specs.Systems.{cases_of}
use Rattle.tv_rank.specs.declared.name.Name.{Name}
use Rattle.tv_rank.specs.declared.name.Name.TheVariants as name
use Rattle.tv_rank.specs.Given.{lists}
use Rattle.tv_rank.specs.Sets.{PointsOf}
use Rattle.tv_lexrank.specs.declared.component.Component.{Component}
use Rattle.tv_lexrank.specs.declared.fault.RankFault.{RankFault}
use Rattle.tv_lexrank.specs.declared.fault.RankFault.TheVariants as fault
use Rattle.tv_lexrank.specs.declared.round.Round.{Round}
use Rattle.tv_lexrank.specs.Greedy.{Lead, AreBarriers, RefusesFalling}
use Rattle.tv_lexrank.specs.Known.{AreBare, HaveRows}
use Rattle.tv_finitely.specs.declared.rounds.Rounds.{Rounds}
use Rattle.tv_finitely.specs.declared.rounds.Rounds.TheVariants.{Enough, Stuck}

-- some case of the set enters
abbrev pub SomeEnters : List Bool → List ℕ → Type 0
SomeEnters marks set = (j : ℕ) × (j < length set) × (get_or marks (get_or set j 0) false ≡ true)

-- no case of the set enters
abbrev pub NoneEnters : List Bool → List ℕ → Type 0
NoneEnters marks set = (j : ℕ) → j < length set → get_or marks (get_or set j 0) false ≡ false

-- the rounds take cases out of the set until none that is left enters
pub record AreEnough (about : CaseSystem) (known : List Piece) (marks : List Bool) (set : List ℕ) (rounds : List Round) : Type 0 where
  pub left : List ℕ
  pub lead : Lead about known set rounds left
  pub none_enters : NoneEnters marks left

-- Some rounds lead from the set to what is left. One of those left enters, each has a rational point, and for each there is a barrier of the
-- ranking system in which it falls, and no family over the rationals does.
pub record AreStuck (about : CaseSystem) (known : List Piece) (marks : List Bool) (set left : List ℕ) (barriers : List (List ℤ)) : Type 0 where
  pub rounds : List Round
  pub lead : Lead about known set rounds left
  pub enters : SomeEnters marks left
  pub points : PointsOf about known left
  pub each_barred : AreBarriers about known left barriers

-- what the rounds give
abbrev pub AreRounds : CaseSystem → List Piece → List Bool → List ℕ → Rounds → Type 0
AreRounds about known marks set (Enough rounds) = AreEnough about known marks set rounds.items
AreRounds about known marks set (Stuck left barriers) = AreStuck about known marks set left.items (lists barriers.items)

-- ---- refusals
-- `round` rounds lead from the set to one of which some case enters, and its ranking system, where the named case falls, has the fault
pub record RefusesRound (about : CaseSystem) (known : List Piece) (marks : List Bool) (set : List ℕ) (pivots round falling : ℕ) (e : SolveFault) : Type 0 where
  pub rounds : List Round
  pub as_many : length rounds ≡ round
  pub left : List ℕ
  pub lead : Lead about known set rounds left
  pub enters : SomeEnters marks left
  pub falls : RefusesFalling about known left pivots falling e

-- the same, where the set that is left is given
pub record RefusesLeft (about : CaseSystem) (known : List Piece) (marks : List Bool) (set left : List ℕ) (pivots falling : ℕ) (e : SolveFault) : Type 0 where
  pub rounds : List Round
  pub lead : Lead about known set rounds left
  pub enters : SomeEnters marks left
  pub falls : RefusesFalling about known left pivots falling e

-- the system is named by the component and the round where no rows are known, and else by the set
abbrev pub NamesRound : CaseSystem → List Piece → List Bool → List ℕ → ℕ → ℕ → Name → SolveFault → Type 0
NamesRound about known marks set pivots component (name.Empty k) e = ⊥
NamesRound about known marks set pivots component (name.Rank c round falling) e =
    AreBare known × (c ≡ component) × RefusesRound about known marks set pivots round falling e
NamesRound about known marks set pivots component (name.Rows rows) e = ⊥
NamesRound about known marks set pivots component (name.Later s falling) e = HaveRows known × RefusesLeft about known marks set s.items pivots falling e

abbrev pub RefusesRounds : CaseSystem → List Piece → List Bool → List ℕ → ℕ → ℕ → RankFault → Type 0
RefusesRounds about known marks set pivots component (fault.Solve system e) = NamesRound about known marks set pivots component system e
RefusesRounds about known marks set pivots component (fault.Open taken values) = ⊥
RefusesRounds about known marks set pivots component (fault.Cover f) = ⊥
RefusesRounds about known marks set pivots component fault.Memory = Unit {0}

-- ---- of a component
abbrev pub AreRoundsIn : Component → List Bool → List ℕ → Rounds → Type 0
AreRoundsIn c marks set r = AreRounds (cases_of c.about.now) c.known.now.pieces.items marks set r

abbrev pub RefusesRoundsIn : Component → List Bool → List ℕ → RankFault → Type 0
RefusesRoundsIn c marks set e = RefusesRounds (cases_of c.about.now) c.known.now.pieces.items marks set c.pivots c.number e

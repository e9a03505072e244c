-- Rounds that end, and their refusals.
use Rattle.std.proofs.Common.{◌≡◌, ℕ, ◌≤◌, List, length, Bool, arith, sym, ◌∙◌, subst}
use Rattle.tv_linear.specs.declared.region.Piece.{Piece}
use Rattle.tv_cases.specs.LinearCases.{CaseSystem}
use Rattle.tv_rank.specs.declared.name.Name.{Name}
use Rattle.tv_rank.specs.declared.name.Name.TheVariants as name
use Rattle.tv_lexrank.specs.declared.fault.RankFault.{RankFault}
use Rattle.tv_lexrank.specs.declared.fault.RankFault.TheVariants as fault
use Rattle.tv_lexrank.specs.declared.round.Round.{Round}
use Rattle.tv_lexrank.specs.Greedy.{Lead, RefusesFalling, RefusesTurn}
use Rattle.tv_finitely.specs.Rounds.{SomeEnters, NoneEnters, RefusesRounds}
use Rattle.tv_finitely.specs.Parts.{RefusesPart}
use Rattle.tv_lexrank.specs.Parts.{AreTakenOut}
use Rattle.tv_lexrank.specs.Sorting.{RefusesSorting}

-- of no cases none enters
pub none_left : (marks : List Bool) (set : List ℕ) → length set ≤ 0 → NoneEnters marks set
none_left marks set h = λ j l. absurd (omega (arith, h, l))

-- the refusal of a round, named as the rounds before lead to it
module _ (about : CaseSystem) (known : List Piece) (marks : List Bool) (set : List ℕ) (pivots component : ℕ) where
  pub turn_refused : (rounds : List Round) (left : List ℕ) (round : ℕ) → Lead about known set rounds left → length rounds ≡ round → SomeEnters marks left → (e : RankFault) → RefusesTurn about known left pivots component round e → RefusesRounds about known marks set pivots component e
  turn_refused rounds left round lead many enters (fault.Solve system e) h = by_name system h
    where
      by_name : (system : Name) → RefusesTurn about known left pivots component round (fault.Solve system e) → RefusesRounds about known marks set pivots component (fault.Solve system e)
      by_name (name.Empty k) h = absurd h
      by_name (name.Rank c r falling) h = (h.0, h.1, record { rounds = rounds; as_many = many ∙ sym h.2; left = left; lead = lead; enters = enters; falls = h.3 })
      by_name (name.Rows rows) h = absurd h
      by_name (name.Later s falling) h = (
        h.0,
        record {
          rounds = rounds;
          lead = subst (λ z. Lead about known set rounds z) (sym h.1) lead;
          enters = subst (SomeEnters marks) (sym h.1) enters;
          falls = subst (λ z. RefusesFalling about known z pivots falling e) (sym h.1) h.2;
        },
      )
  turn_refused rounds left round lead many enters (fault.Open taken values) h = absurd h
  turn_refused rounds left round lead many enters (fault.Cover f) h = absurd h
  turn_refused rounds left round lead many enters fault.Memory h = tt

  -- a refusal of the rounds, and one of the sorting, is one of the component
  pub rounds_refused : (numbers : List ℕ) → AreTakenOut about known numbers component set → (e : RankFault) → RefusesRounds about known marks set pivots component e → RefusesPart about marks known numbers component pivots e
  rounds_refused numbers sorted (fault.Solve system e) h = by_name system h
    where
      by_name : (system : Name) → RefusesRounds about known marks set pivots component (fault.Solve system e) → RefusesPart about marks known numbers component pivots (fault.Solve system e)
      by_name (name.Empty k) h = absurd h
      by_name (name.Rank c r falling) h = (set, sorted, h)
      by_name (name.Rows rows) h = absurd h
      by_name (name.Later s falling) h = (set, sorted, h)
  rounds_refused numbers sorted (fault.Open taken values) h = absurd h
  rounds_refused numbers sorted (fault.Cover f) h = absurd h
  rounds_refused numbers sorted fault.Memory h = tt

pub sorting_refused : (about : CaseSystem) (known : List Piece) (marks : List Bool) (numbers : List ℕ) (component pivots : ℕ) (e : RankFault) → RefusesSorting about known numbers component pivots e → RefusesPart about marks known numbers component pivots e
sorting_refused about known marks numbers component pivots (fault.Solve system e) h = by_name system h
  where
    by_name : (system : Name) → RefusesSorting about known numbers component pivots (fault.Solve system e) → RefusesPart about marks known numbers component pivots (fault.Solve system e)
    by_name (name.Empty k) h = h
    by_name (name.Rank c r falling) h = absurd h
    by_name (name.Rows rows) h = h
    by_name (name.Later s falling) h = absurd h
sorting_refused about known marks numbers component pivots (fault.Open taken values) h = absurd h
sorting_refused about known marks numbers component pivots (fault.Cover f) h = absurd h
sorting_refused about known marks numbers component pivots fault.Memory h = tt

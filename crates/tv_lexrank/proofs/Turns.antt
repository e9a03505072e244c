use Rattle.std.proofs.Common.{◌≡◌, inl, inr, ℕ, ◌+◌, ◌<◌, List, [], ◌∷◌, ◌++◌, length, length-append, get_or, Vec, arith, sym, ap, ◌∙◌, subst, ℤ}
use Rattle.std.specs.Global.{Global}
use Rattle.std.proofs.lemmas.List.{map-append}
use Rattle.tv_linear.specs.declared.region.Piece.{Piece}
use Rattle.tv_linear.proofs.ListLaws.{last_or_below}
use Rattle.tv_cases.specs.LinearCases.{CaseSystem}
use Rattle.tv_refute.proofs.Places.{get_or-left, get_or-right}
use Rattle.tv_simplex.specs.Outcomes.{IsBarrierOf}
use Rattle.tv_simplex.specs.declared.fault.SolveFault.{SolveFault}
use Rattle.tv_simplex.specs.declared.fault.SolveFault.TheVariants as solve
use Rattle.tv_rank.specs.declared.name.Name.{Name}
use Rattle.tv_rank.specs.declared.name.Name.TheVariants as name
use Rattle.tv_rank.specs.declared.found.Found.{Found}
use Rattle.tv_rank.specs.declared.found.Found.TheVariants as found
use Rattle.tv_rank.specs.Given.{lists}
use Rattle.tv_rank.specs.Answers.{IsFound, IsRefusal, IsSystemFault}
use Rattle.tv_rank.specs.Sets.{IsRankedAt, system_of_set}
use Rattle.tv_rank.specs.Ways.{way_at}
use Rattle.tv_rank.specs.Rankings.{NoneRanks}
use Rattle.tv_lexrank.specs.declared.fault.RankFault.{RankFault}
use Rattle.tv_lexrank.specs.declared.fault.RankFault.TheVariants as fault
use Rattle.tv_lexrank.specs.declared.round.Round.{Round}
use Rattle.tv_lexrank.specs.Greedy.{without, IsRound, AreFirst, Lead, more, RefusesFalling, NamesTurn, IsNameOf, RefusesTurn, RefusesGreedy}
use Rattle.tv_lexrank.specs.Refusing.{refusal_of}

-- one more barrier
pub first_more : (about : CaseSystem) (known : List Piece) (set : List ℕ) (n : ℕ) (bs : List (Vec ℤ Global)) (b : Vec ℤ Global) (f : Found) (news : List (Vec ℤ Global)) → AreFirst about known set n (lists bs) → IsRankedAt about known set n f → f ≡ found.None b → news ≡ bs ++ b ∷ [] → AreFirst about known set (n + 1) (lists news)
first_more about known set n bs b f news h r e m = subst (λ z. AreFirst about known set (n + 1) z) (sym (ap lists m ∙ map-append (λ v. v.items) bs (b ∷ []))) (record {
  as_many = length-append (lists bs) (b.items ∷ []) ∙ (let a = h.as_many in omega (arith, a));
  each = λ k l. elim (last_or_below n k l) [
    | inl q ↦ subst (λ z. IsBarrierOf (system_of_set about known set z) (get_or (lists bs ++ b.items ∷ []) z [])) (sym q) (subst (λ z. IsBarrierOf (system_of_set about known set n) z) (sym (get_or-right (lists bs) (b.items ∷ []) n 0 [] (let a = h.as_many in omega (arith, a)))) both.0)
    | inr q ↦ subst (λ z. IsBarrierOf (system_of_set about known set k) z) (sym (get_or-left (lists bs) (b.items ∷ []) k [] (let a = h.as_many in omega (arith, a, q)))) (h.each k q)
  ];
  excluded = λ k l. elim (last_or_below n k l) [
    | inl q ↦ subst (λ z. NoneRanks about.variables (length set) (way_at about.cases known set) z) (sym q) both.1
    | inr q ↦ h.excluded k q
  ];
})
  where
    both : IsBarrierOf (system_of_set about known set n) b.items × NoneRanks about.variables (length set) (way_at about.cases known set) n
    both = subst (λ z. IsFound about.variables about.locations (length set) (way_at about.cases known set) n z) e r.found

-- the refusal of the ranking system of a set, where the case at a place falls
module _ (about : CaseSystem) (known : List Piece) (set : List ℕ) (pivots component round place : ℕ) (within : place < length set) (before : (k : ℕ) → k < place → NoneRanks about.variables (length set) (way_at about.cases known set) k) where
  falling_refused : (falling : ℕ) (e : SolveFault) → falling ≡ get_or set place 0 → IsSystemFault (system_of_set about known set place) pivots e → RefusesFalling about known set pivots falling e
  falling_refused falling e is h = record { place = place; within = within; is = sym is; before = before; refuses = h }

  named_turn : (named : Name) (e : SolveFault) → IsNameOf known set component round (get_or set place 0) named → IsSystemFault (system_of_set about known set place) pivots e → NamesTurn about known set pivots component round named e
  named_turn (name.Empty k) e is h = absurd is
  named_turn (name.Rank c r falling) e is h = (is.0, is.1, is.2, falling_refused falling e is.3 h)
  named_turn (name.Rows rows) e is h = absurd is
  named_turn (name.Later s falling) e is h = (is.0, is.1, falling_refused falling e is.2 h)

  pub turn_refused : (named : Name) (e : SolveFault) → IsNameOf known set component round (get_or set place 0) named → IsRefusal (system_of_set about known set place) pivots e → RefusesTurn about known set pivots component round (refusal_of named e)
  turn_refused named (solve.Width basis row column) is h = named_turn named (solve.Width basis row column) is h
  turn_refused named (solve.Scale basis) is h = named_turn named (solve.Scale basis) is h
  turn_refused named (solve.Pivots bases) is h = named_turn named (solve.Pivots bases) is h
  turn_refused named (solve.Size height width) is h = named_turn named (solve.Size height width) is h
  turn_refused named solve.Memory is h = tt

-- the refusal of a round, named as the rounds before lead to it
pub refused_round : (about : CaseSystem) (known : List Piece) (set : List ℕ) (pivots component : ℕ) (rounds : List Round) (left : List ℕ) (round : ℕ) → Lead about known set rounds left → length rounds ≡ round → (e : RankFault) → RefusesTurn about known left pivots component round e → RefusesGreedy about known set pivots component e
refused_round about known set pivots component rounds left round lead many (fault.Solve system e) h = by_name system h
  where
    by_name : (system : Name) → RefusesTurn about known left pivots component round (fault.Solve system e) → RefusesGreedy about known set pivots component (fault.Solve system e)
    by_name (name.Empty k) h = absurd h
    by_name (name.Rank c r falling) h = (h.0, h.1, record { rounds = rounds; as_many = many ∙ sym h.2; left = left; lead = lead; falls = h.3 })
    by_name (name.Rows rows) h = absurd h
    by_name (name.Later s falling) h =
        (h.0, (rounds, subst (λ z. Lead about known set rounds z) (sym h.1) lead, subst (λ z. RefusesFalling about known z pivots falling e) (sym h.1) h.2))
refused_round about known set pivots component rounds left round lead many (fault.Open taken values) h = absurd h
refused_round about known set pivots component rounds left round lead many (fault.Cover f) h = absurd h
refused_round about known set pivots component rounds left round lead many fault.Memory h = tt

pub one_more : (about : CaseSystem) (known : List Piece) (set left : List ℕ) (rounds news : List Round) (round : Round) (rest : List ℕ) → Lead about known set rounds left → IsRound about known left round → news ≡ rounds ++ round ∷ [] → rest ≡ without left round.place → Lead about known set news rest
one_more about known set left rounds news round rest h r e f = subst (λ z. Lead about known set z rest) (sym e) (subst (λ z. Lead about known set (rounds ++ round ∷ []) z) (sym f) (more set left rounds round h r))

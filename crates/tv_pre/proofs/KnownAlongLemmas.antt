-- Regions of fixpoints that have the states that rounds tell of.
use Rattle.std.proofs.Common.{◌≡◌, inl, inr, ℕ, suc, ◌+◌, List, [], ◌∷◌, length, refl, sym, ◌∙◌, subst, arith, Bool, true, false, not}
use Rattle.std.specs.Prelude.{All, Contains, ◌↔◌, Option, None, Some, IfSome, is_some}
use Rattle.tv_formula.specs.declared.tree.Path.{Path}
use Rattle.tv_formula.specs.declared.tree.Path.TheVariants.{Every, Any}
use Rattle.tv_program.specs.Steps.{State}
use Rattle.tv_linear.specs.declared.region.Region.{Region}
use Rattle.tv_cases.specs.LinearCases.{CaseSystem, CaseSteps, IsCase}
use Rattle.tv_cases.proofs.ContainsLemmas.{Contains-cases, Contains-none}
use Rattle.tv_cert.specs.Obligations.{hold_side}
use Rattle.tv_cert.specs.Statements.{Statement}
use Rattle.tv_known.specs.Cycles.{IsStateOf}
use Rattle.tv_known.specs.Known.{IsRankedOn}
use Rattle.tv_known.specs.Ranking.{HasLexicographicRanking}
use Rattle.tv_known.proofs.RoundLemmas as known
use Rattle.tv_known.specs.Rounds.{ShrinkingRound, RoundBy, HoldsBy, HoldSide, EndSides, must_end, FixRound, IsFixSettled}
use Rattle.tv_region.specs.StepRegions.{InState}
use Rattle.tv_rounds.specs.declared.fixed_point.FixedPoint.{FixedPoint}
use Rattle.tv_rounds.specs.Sides.{AreTame, RoundOf, IsSettledBy, HoldsAt, IsSetOf}
use Rattle.tv_rounds.specs.Answers.{IsRound, AreLayers, IsSettledAt, IsOpenAt}
use Rattle.tv_pre.specs.declared.sides.Sides.{Sides}
use Rattle.tv_pre.specs.declared.gap.Gap.{Gap}
use Rattle.tv_pre.specs.Along.{arguments, IsOfSides, AreAtEnd, AreOnward}
use Rattle.tv_pre.specs.Built.{AreBuilt, IsBuiltOf}
use Rattle.tv_pre.specs.Finding.{IsTameStatement, IsTameFor}
use Rattle.tv_pre.specs.Fixed.{IsJoined}
use Rattle.tv_pre.specs.KnownStates.{HasStates, known_along, holds_along, IsNotRanked}
use Rattle.tv_pre.specs.Parts.{joined_pieces}
use Rattle.tv_pre.specs.Pieces.{InPieces}
use Rattle.tv_pre.specs.RankedAlong.{AllGo, HasAll, IsBesideIfTame}
use Rattle.tv_pre.specs.Unserved.{AreTameCases, IsUnranked}
use Rattle.tv_pre.proofs.AlongLemmas.{settled_inside, stays_more}
use Rattle.tv_pre.proofs.BuiltLemmas.{hold_built}
use Rattle.tv_pre.proofs.ExactLemmas.{way_same, end_same, to_sides, from_sides}
use Rattle.tv_pre.proofs.FullAlongLemmas.{grown_inside, holds_wider}
use Rattle.tv_pre.proofs.KnownRounds.{grows_to, same_to, settled_alike, until_known, weak_known, ranked_round}
use Rattle.tv_pre.proofs.SetLemmas.{joined_in, no_piece}
use Rattle.tv_pre.proofs.TameLemmas.{tame_built}

-- the same states of the program
pub has_same : (about : CaseSystem) (alone : Bool) (P Q : State → Type 0) (region : Region) → ((s : State) → IsStateOf about s → P s ↔ Q s) → HasStates about alone P region → HasStates about alone Q region
has_same about alone P Q region same h = record {
  all = λ s is q. h.all s is ((same s is).1 q);
  only = λ e s is m. (same s is).0 (h.only e s is m);
}

module _ (about : CaseSystem) (cases : All (IsCase about.variables about.locations) about.cases) (sides : Sides) (end : Region) (point : FixedPoint) (of : IsOfSides sides end point) (ends : AreAtEnd about sides end) where
  abbrev First : State → Type 0
  First s = InState sides.first.now s

  abbrev Second : State → Type 0
  Second s = InState sides.second.now s

  abbrev RoundAlong : ℕ → State → Type 0
  RoundAlong k s = FixRound about sides.path sides.shape First Second k s

  abbrev IsSettledAlong : ℕ → Type 0
  IsSettledAlong k = IsFixSettled about sides.path sides.shape First Second k

  -- the rounds of the fixpoint are those of the regions of its arguments
  round_along : (grows : Bool) → must_end sides.shape ≡ grows → (k : ℕ) (s : State) → IsStateOf about s → RoundOf grows about point k s ↔ RoundAlong k s
  round_along grows e k s is = (
    λ r. to_sides about cases sides end point of ends k s is (subst (λ b. RoundOf b about point k s) (sym e) r),
    λ r. subst (λ b. RoundOf b about point k s) e (from_sides about cases sides end point of ends k s is r),
  )

  settled_along : (grows : Bool) → must_end sides.shape ≡ grows → (k : ℕ) → IsSettledBy grows about point k → IsSettledAlong k
  settled_along grows e k settled s is = (
    λ r. (round_along grows e (suc k) s is).0 ((settled s is).0 ((round_along grows e k s is).1 r)),
    λ r. (round_along grows e k s is).0 ((settled s is).1 ((round_along grows e (suc k) s is).1 r)),
  )

  settled_point : (grows : Bool) → must_end sides.shape ≡ grows → (k : ℕ) → IsSettledAlong k → IsSettledBy grows about point k
  settled_point grows e k settled s is = (
    λ r. (round_along grows e (suc k) s is).1 ((settled s is).0 ((round_along grows e k s is).0 r)),
    λ r. (round_along grows e k s is).1 ((settled s is).1 ((round_along grows e (suc k) s is).0 r)),
  )

  -- the fixpoint holds where that of the regions does
  holds_point : (s : State) → IsStateOf about s → holds_along about sides s → HoldsAt (must_end sides.shape) about point s
  holds_point s is h =
      subst (λ (q : Path). HoldsBy (must_end sides.shape) (CaseSteps about) q (InState point.hold.now) (InState point.end.now) s) (sym of.path)
      (holds_wider about cases (HoldSide sides.shape First Second) (EndSides sides.shape First Second) (InState point.hold.now) (InState point.end.now)
      (λ t q x. inl ((way_same about cases sides end point of ends t q).1 x)) (λ t q x. (end_same about cases sides end point of ends t q).1 x) (must_end sides.shape) sides.path s is h)

  -- ---- rounds that grow
  in_layer : (k : ℕ) (layers : List Region) → AreLayers about point k layers → (r : Region) → Contains layers r → (s : State) → IsStateOf about s → InState r s → RoundOf true about point (k + length layers) s
  in_layer k [] each r c s is m = absurd (Contains-none r c)
  in_layer k (layer ∷ layers) each r c s is m = elim (Contains-cases layer r layers c) [
    | inl e ↦ grows_to about cases point.path (InState point.hold.now) (InState point.end.now) (suc k) (k + suc (length layers)) (omega arith) s (inr ((each.0.set.same s is).0 (subst (λ x. InState x s) (sym e) m)))
    | inr n ↦ subst (λ j. RoundOf true about point j s) (let w : suc k + length layers ≡ k + suc (length layers) = omega arith in w) (in_layer (suc k) layers each.1 r n s is m)
  ]

  grown_round : (layers : List Region) → AreLayers about point 0 layers → (s : State) → IsStateOf about s → InPieces (joined_pieces (end ∷ layers)) s → RoundOf true about point (length layers) s
  grown_round layers each s is m =
      let w = joined_in (end ∷ layers) s m in
      elim (Contains-cases end w.0 layers w.1) [
        | inl e ↦ grows_to about cases point.path (InState point.hold.now) (InState point.end.now) 0 (length layers) (omega arith) s (subst (λ x. InState x s) (sym e ∙ sym of.ends) w.2)
        | inr n ↦ subst (λ j. RoundOf true about point j s) (let e : 0 + length layers ≡ length layers = omega arith in e) (in_layer 0 layers each w.0 n s is w.2)
      ]

  module _ (must : must_end sides.shape ≡ true) (layers : List Region) (each : AreLayers about point 0 layers) (region : Region) (joined : IsJoined about (end ∷ layers) region) where
    -- the region of the end and the layers has the last of these rounds
    grown_along : (k : ℕ) → length layers ≡ k → (s : State) → IsStateOf about s → InState region s ↔ RoundAlong k s
    grown_along k many s is = (
      λ m. (round_along true must k s is).0 (subst (λ j. RoundOf true about point j s) many (grown_round layers each s is (subst (λ qs. InPieces qs s) joined.pieces m))),
      λ r. subst (λ qs. InPieces qs s) (sym joined.pieces) (grown_inside about sides end point of layers each s is (subst (λ j. RoundOf true about point j s) (sym many) ((round_along true must k s is).1 r))),
    )

    grown_states : (alone : Bool) (last k : ℕ) → length layers ≡ k → ((s : State) → IsStateOf about s → RoundAlong k s ↔ RoundAlong last s) →
        (IsRankedOn about sides.path sides.shape First Second → (s : State) → IsStateOf about s → RoundAlong k s) → HasStates about alone (λ s. known_along about last sides s) region
    grown_states alone last k many same ranked = record {
      all = λ s is h. (grown_along k many s is).1 (elim ((until_known about last sides.path First Second sides.shape must s).0 h) [
        | inl r ↦ (same s is).1 r
        | inr r ↦ ranked r s is
      ]);
      only = λ e s is m. (until_known about last sides.path First Second sides.shape must s).1 (inl ((same s is).0 ((grown_along k many s is).0 m)));
    }

    pub settled_known : (alone : Bool) (last at : ℕ) (round : Region) → IsSettledAt true about point last round at layers → HasStates about alone (λ s. known_along about last sides s) region
    settled_known alone last at round told =
        let settled = settled_along true must at told.settled in
        let hold = HoldSide sides.shape First Second in
        let end_of = EndSides sides.shape First Second in
        grown_states alone last at told.layers.many
        (λ s is. same_to about cases sides.path hold end_of (must_end sides.shape) at last told.early settled s is)
        (λ ranked s is. subst (λ b. RoundBy b (CaseSteps about) sides.path hold end_of at s) (sym must)
        (ranked_round about cases sides.path sides.shape must First Second ranked at
        (subst (λ b. known.IsSettledBy b about sides.path hold end_of at) must settled) s is))

    pub open_known : (alone : Bool) (last : ℕ) (round : Region) → IsOpenAt true about point last round layers → IsNotRanked about sides → HasStates about alone (λ s. known_along about last sides s) region
    open_known alone last round told none =
        grown_states alone last last told.layers.many (λ s is. (λ r. r, λ r. r)) (λ ranked s is. absurd (none must ranked))

  -- ---- rounds that shrink
  module _ (may : must_end sides.shape ≡ false) where
    shrunk_round : (k : ℕ) (round onward : Region) → IsRound false about point k round → AreOnward about sides round onward → IsSettledBy false about point k →
        (s : State) → IsStateOf about s → InPieces (joined_pieces (end ∷ onward ∷ [])) s → RoundAlong k s
    shrunk_round k round onward r o settled s is m =
        let w = joined_in (end ∷ onward ∷ []) s m in
        (settled_along false may k settled s is).1 (subst (λ b. RoundBy b (CaseSteps about) sides.path (HoldSide sides.shape First Second) (EndSides sides.shape First Second) (suc k) s) (sym may)
        (elim (Contains-cases end w.0 (onward ∷ []) w.1) [
          | inl e ↦ inl (ends.right s is (subst (λ x. InState x s) (sym e) w.2))
          | inr n ↦ elim (Contains-cases onward w.0 [] n) [
            | inl e ↦ (let there = o.right s is (subst (λ x. InState x s) (sym e) w.2) in
                inr (
                  there.0,
                  stays_more about cases sides.path (InState round) (ShrinkingRound (CaseSteps about) sides.path (HoldSide sides.shape First Second) (EndSides sides.shape First Second) k) s is
                      (λ t q y. subst (λ b. RoundBy b (CaseSteps about) sides.path (HoldSide sides.shape First Second) (EndSides sides.shape First Second) k t) may ((round_along false may k t q).0 ((r.set.same t q).0 y))) there.1,
                ))
            | inr none ↦ absurd (Contains-none w.0 none)
          ]
        ]))

    shrunk_in : (k : ℕ) (round onward : Region) → IsRound false about point k round → AreTame about point → AreOnward about sides round onward → IsSettledBy false about point k →
        (s : State) → IsStateOf about s → RoundAlong k s → InPieces (joined_pieces (end ∷ onward ∷ [])) s
    shrunk_in k round onward r tame o settled s is m =
        settled_inside about cases sides end point of k round onward r settled tame o s is ((r.set.same s is).1 ((round_along false may k s is).1 m))

    -- a region that has the states of a settled round
    settled_states : (alone : Bool) (last at : ℕ) (round region : Region) (layers : List Region) → IsSettledAt false about point last round at layers →
        ((s : State) → IsStateOf about s → InState region s ↔ RoundAlong at s) → HasStates about alone (λ s. known_along about last sides s) region
    settled_states alone last at round region layers told same =
        let settled = settled_along false may at told.settled in record {
          all = λ s is h.
              (let k = (weak_known about last sides.path First Second sides.shape may s).0 h in
              (same s is).1 (settled_alike about cases sides.path (HoldSide sides.shape First Second) (EndSides sides.shape First Second) (must_end sides.shape) k.round at k.settled settled s is k.inside));
          only = λ e s is m. (weak_known about last sides.path First Second sides.shape may s).1 (record {
            round = at;
            early = told.early;
            settled = settled;
            inside = (same s is).0 m;
          });
        }

    pub round_known : (alone : Bool) (last at : ℕ) (round : Region) (layers : List Region) → IsSettledAt false about point last round at layers → HasStates about alone (λ s. known_along about last sides s) round
    round_known alone last at round layers told =
        settled_states alone last at round round layers told (λ s is. (
          λ m. (round_along false may at s is).0 ((told.round.set.same s is).0 m),
          λ r. (told.round.set.same s is).1 ((round_along false may at s is).1 r),
        ))

    pub shrunk_known : (alone : Bool) (last at : ℕ) (round onward region : Region) (layers : List Region) → IsSettledAt false about point last round at layers → AreTame about point → AreOnward about sides round onward →
        IsJoined about (end ∷ onward ∷ []) region → HasStates about alone (λ s. known_along about last sides s) region
    shrunk_known alone last at round onward region layers told tame o joined =
        settled_states alone last at round region layers told (λ s is. (
          λ m. shrunk_round at round onward told.round o told.settled s is (subst (λ qs. InPieces qs s) joined.pieces m),
          λ r. subst (λ qs. InPieces qs s) (sym joined.pieces) (shrunk_in at round onward told.round tame o told.settled s is r),
        ))

    -- a settled round has each state where the fixpoint holds
    pub shrunk_holding : (k : ℕ) (round onward region : Region) → IsRound false about point k round → AreTame about point → AreOnward about sides round onward → IsSettledBy false about point k →
        IsSetOf about (HoldsAt (must_end sides.shape) about point) round → IsJoined about (end ∷ onward ∷ []) region → (s : State) → IsStateOf about s → holds_along about sides s → InState region s
    shrunk_holding k round onward region r tame o settled exact joined s is h =
        subst (λ qs. InPieces qs s) (sym joined.pieces) (settled_inside about cases sides end point of k round onward r settled tame o s is ((exact.same s is).1 (holds_point s is h)))

    -- where no round is settled, no state is known
    pub none_known : (alone : Bool) (last : ℕ) (round region : Region) (layers : List Region) → IsOpenAt false about point last round layers → (alone ≡ true → region.pieces.items ≡ []) → HasStates about alone (λ s. known_along about last sides s) region
    none_known alone last round region layers told none = record {
      all = λ s is h.
          (let k = (weak_known about last sides.path First Second sides.shape may s).0 h in
          let early = k.early in
          absurd (told.all_open k.round (omega (arith, early)) (settled_point false may k.round k.settled)));
      only = λ e s is m. absurd (no_piece region.pieces.items s (none e) m);
    }

-- ---- ranks
module _ (about : CaseSystem) (sides : Sides) (path : sides.path ≡ Every) where
  -- where each state goes on to the end, a region of all states has the known ones
  pub everywhere_known : (alone : Bool) (last : ℕ) (region : Region) → must_end sides.shape ≡ true → HasLexicographicRanking about → AllGo about sides → HasAll about region.pieces.items → HasStates about alone (λ s. known_along about last sides s) region
  everywhere_known alone last region must ranking go all = record {
    all = λ s is h. all s is;
    only = λ e s is m. (until_known about last sides.path (InState sides.first.now) (InState sides.second.now) sides.shape must s).1
        (inr (subst (λ (p : Path). IsRankedOn about p sides.shape (InState sides.first.now) (InState sides.second.now)) (sym path) (record { ranking = ranking; goes = go })));
  }

  pub unranked_none : IsUnranked about → IsNotRanked about sides
  unranked_none lacks must ranked = lacks (subst (λ (p : Path). IsRankedOn about p sides.shape (InState sides.first.now) (InState sides.second.now)) path ranked).ranking

  -- where some state does not go on to the end
  pub beside_none : AreTameCases about → IsBesideIfTame about sides → IsNotRanked about sides
  beside_none tame some must ranked =
      let w = some tame in
      let r = subst (λ (p : Path). IsRankedOn about p sides.shape (InState sides.first.now) (InState sides.second.now)) path ranked in
      elim (r.goes w.state w.is) [ inl e ↦ w.not_end e | inr g ↦ w.not_way g.0 g.1 ]

-- over some run no fixpoint is ranked
pub any_none : (about : CaseSystem) (sides : Sides) → (sides.path ≡ Every → must_end sides.shape ≡ true → ⊥) → IsNotRanked about sides
any_none about sides other must ranked = by_path sides.path refl ranked where
  by_path : (p : Path) → sides.path ≡ p → IsRankedOn about p sides.shape (InState sides.first.now) (InState sides.second.now) → ⊥
  by_path Every e r = other e must
  by_path Any e r = r

-- where going back is exact for a statement, it is for all states
pub tame_cases : (about : CaseSystem) (s : Statement) → IsTameStatement about s → AreTameCases about
tame_cases about s (inl plain) = inl plain
tame_cases about s (inr d) = inr d.0

-- so it is for the sides of a fixpoint
pub sides_tame : (about : CaseSystem) (sides : Sides) (end hold : Region) → hold ≡ hold_side sides.shape sides.first.now sides.second.now → IsBuiltOf about 0 (arguments sides) end →
    (s : Statement) (h : ℕ) → AreBuilt about s h (arguments sides) → IsTameStatement about s → IsTameFor about hold end
sides_tame about sides end hold e b s h m tame =
    subst (λ r. IsTameFor about r end) (sym e)
    (tame_built about s tame h (0 + h) (hold_side sides.shape sides.first.now sides.second.now) end (hold_built about s h sides.shape sides.first.now sides.second.now m) (b s h m))

-- ---- gaps
pub whatever_gap : (P : Type 0) (gap : Option Gap) → P → IfSome gap (λ g. P)
whatever_gap P None p = tt
whatever_gap P (Some g) p = p

pub without_gap : (P : Type 0) (gap : Option Gap) → gap ≡ None → IfSome gap (λ g. P)
without_gap P gap e = subst (λ o. IfSome o (λ g. P)) (sym e) tt

pub none_told : (gap : Option Gap) (b : Bool) → is_some gap ≡ not b → b ≡ true → gap ≡ None
none_told None b e t = refl
none_told (Some g) true e t = absurd cc
none_told (Some g) false e t = absurd cc

-- Settled rounds, and the states that rounds tell of.
use Rattle.std.proofs.Common.{◌≡◌, ◌⊎◌, inl, inr, ℕ, suc, ◌≤◌, refl, Bool, true, false}
use Rattle.std.specs.Prelude.{All, ◌↔◌}
use Rattle.tv_formula.specs.declared.tree.Path.{Path}
use Rattle.tv_formula.specs.declared.tree.Path.TheVariants.{Every, Any}
use Rattle.tv_formula.specs.declared.tree.Shape.{Shape}
use Rattle.tv_formula.specs.declared.tree.Shape.TheVariants.{Until, Weak, Release, Strong}
use Rattle.tv_program.specs.Steps.{State}
use Rattle.tv_cases.specs.LinearCases.{CaseSystem, CaseSteps, IsCase}
use Rattle.tv_known.specs.Cycles.{IsStateOf}
use Rattle.tv_known.specs.Known.{IsRanked, InSettledRound, IsRankedOn, FixKnown}
use Rattle.tv_known.specs.Rounds.{GrowingRound, ShrinkingRound, RoundBy, HoldsBy, SidesHold, HoldSide, EndSides, must_end, FixRound}
use Rattle.tv_known.proofs.KnownHolds.{fix_known}
use Rattle.tv_known.proofs.RoundLemmas.{IsSettledBy, stays_state, round_all, round_right}
use Rattle.tv_rounds.proofs.MadeLemmas.{lift_to}
use Rattle.tv_pre.proofs.BetweenLemmas.{end_other, hold_other}
use Rattle.tv_pre.proofs.SettledRounds.{goes_by, stays_by, round_wider, fix_settled_same}
use Rattle.tv_region.proofs.RegionLemmas.{either_side}

-- ---- known states
module _ (about : CaseSystem) (last : ℕ) (path : Path) (f g : State → Type 0) where
  -- of rounds that grow
  pub until_known : (shape : Shape) → must_end shape ≡ true → (s : State) → FixKnown about last path shape f g s ↔ (FixRound about path shape f g last s ⊎ IsRankedOn about path shape f g)
  until_known Until must s = (λ k. k, λ k. k)
  until_known Strong must s = (λ k. k, λ k. k)
  until_known Weak must s = absurd cc
  until_known Release must s = absurd cc

  -- of rounds that shrink
  pub weak_known : (shape : Shape) → must_end shape ≡ false → (s : State) → FixKnown about last path shape f g s ↔ InSettledRound about last path shape f g s
  weak_known Weak may s = (λ k. k, λ k. k)
  weak_known Release may s = (λ k. k, λ k. k)
  weak_known Until may s = absurd cc
  weak_known Strong may s = absurd cc

module _ (about : CaseSystem) (cases : All (IsCase about.variables about.locations) about.cases) where
  -- ---- settled rounds
  module _ (path : Path) (hold end : State → Type 0) where
    -- no state leaves a round that grows
    pub grows_to : (k n : ℕ) → k ≤ n → (s : State) → GrowingRound (CaseSteps about) path hold end k s → GrowingRound (CaseSteps about) path hold end n s
    grows_to k n l s r = lift_to (λ i. GrowingRound (CaseSteps about) path hold end i s) (λ i x. inl x) k n l r

    -- a round after a settled one is settled too
    settled_next : (grows : Bool) (k : ℕ) → IsSettledBy grows about path hold end k → IsSettledBy grows about path hold end (suc k)
    settled_next true k settled s is = (
      λ r. inl r,
      λ r. elim r [
        | inl x ↦ x
        | inr x ↦ inr (x.0, goes_by (CaseSteps about) path (GrowingRound (CaseSteps about) path hold end (suc k)) (GrowingRound (CaseSteps about) path hold end k) s (λ t st y. (settled t (stays_state about cases s t is st)).1 y) x.1)
      ],
    )
    settled_next false k settled s is = (
      λ r. elim r [
        | inl x ↦ inl x
        | inr x ↦ inr (x.0, stays_by (CaseSteps about) path (ShrinkingRound (CaseSteps about) path hold end k) (ShrinkingRound (CaseSteps about) path hold end (suc k)) s (λ t st y. (settled t (stays_state about cases s t is st)).0 y) x.1)
      ],
      λ r. elim r [
        | inl x ↦ inl x
        | inr x ↦ inr (x.0, stays_by (CaseSteps about) path (ShrinkingRound (CaseSteps about) path hold end (suc k)) (ShrinkingRound (CaseSteps about) path hold end k) s (λ t st y. (settled t (stays_state about cases s t is st)).1 y) x.1)
      ],
    )

    -- and has the same states
    pub same_to : (grows : Bool) (k n : ℕ) → k ≤ n → IsSettledBy grows about path hold end k → (s : State) → IsStateOf about s → RoundBy grows (CaseSteps about) path hold end k s ↔ RoundBy grows (CaseSteps about) path hold end n s
    same_to grows k n l settled s is =
        (lift_to (λ i. IsSettledBy grows about path hold end i × (RoundBy grows (CaseSteps about) path hold end k s ↔ RoundBy grows (CaseSteps about) path hold end i s))
        (λ i x. (settled_next grows i x.0, ((λ r. (x.0 s is).0 (x.1.0 r)), (λ r. x.1.1 ((x.0 s is).1 r))))) k n l (settled, ((λ r. r), (λ r. r)))).1

    -- two settled rounds have the same states
    pub settled_alike : (grows : Bool) (k n : ℕ) → IsSettledBy grows about path hold end k → IsSettledBy grows about path hold end n → (s : State) → IsStateOf about s → RoundBy grows (CaseSteps about) path hold end k s → RoundBy grows (CaseSteps about) path hold end n s
    settled_alike grows k n one two s is r = elim (either_side k n) [
      | inl l ↦ (same_to grows k n l one s is).0 r
      | inr l ↦ (same_to grows n k l two s is).1 r
    ]

  -- ---- ranked fixpoints
  -- a ranked fixpoint comes to its end from each state
  ranked_holds : (shape : Shape) → must_end shape ≡ true → (f g : State → Type 0) → IsRanked about shape f g → (s : State) → IsStateOf about s → HoldsBy true (CaseSteps about) Every (HoldSide shape f g) (EndSides shape f g) s
  ranked_holds Until must f g r s is = fix_known about cases 0 f g f g (λ t i k. k) (λ t i k. k) Every Until s is (inr r)
  ranked_holds Strong must f g r s is = fix_known about cases 0 f g f g (λ t i k. k) (λ t i k. k) Every Strong s is (inr r)
  ranked_holds Weak must f g r s is = absurd cc
  ranked_holds Release must f g r s is = absurd cc

  -- so each state is in a settled round
  pub ranked_round : (path : Path) (shape : Shape) → must_end shape ≡ true → (f g : State → Type 0) → IsRankedOn about path shape f g → (k : ℕ) → IsSettledBy true about path (HoldSide shape f g) (EndSides shape f g) k → (s : State) → IsStateOf about s → RoundBy true (CaseSteps about) path (HoldSide shape f g) (EndSides shape f g) k s
  ranked_round Every shape must f g r k settled s is = round_all about cases (HoldSide shape f g) (EndSides shape f g) true Every k tt settled s is (ranked_holds shape must f g r s is)
  ranked_round Any shape must f g r k settled s is = absurd r

  -- ---- other sets
  module _ (path : Path) (shape : Shape) (A B P Q : State → Type 0) (a : (s : State) → IsStateOf about s → A s → P s) (b : (s : State) → IsStateOf about s → B s → Q s) where
    -- rounds of wider sets are wider
    pub fix_round_wider : (j : ℕ) (s : State) → IsStateOf about s → FixRound about path shape A B j s → FixRound about path shape P Q j s
    fix_round_wider j s is r =
        round_wider (CaseSteps about) (IsStateOf about) (λ t u q st. stays_state about cases t u q st) path (HoldSide shape A B) (EndSides shape A B) (HoldSide shape P Q) (EndSides shape P Q)
        (λ t q x. hold_other shape A B P Q t (a t q) (b t q) x) (λ t q x. end_other shape A B P Q t (a t q) (b t q) x) (must_end shape) j s is r

    ranked_wider : IsRanked about shape A B → IsRanked about shape P Q
    ranked_wider r = record {
      ranking = r.ranking;
      goes = λ s is. elim (r.goes s is) [
        | inl now ↦ inl (end_other shape A B P Q s (a s is) (b s is) now)
        | inr on ↦ inr (hold_other shape A B P Q s (a s is) (b s is) on.0, on.1)
      ];
    }

  -- what is ranked of two sets is ranked of wider ones
  pub ranked_on_wider : (path : Path) (shape : Shape) (A B P Q : State → Type 0) → ((s : State) → IsStateOf about s → A s → P s) → ((s : State) → IsStateOf about s → B s → Q s) → IsRankedOn about path shape A B → IsRankedOn about path shape P Q
  ranked_on_wider Every shape A B P Q a b r = ranked_wider Every shape A B P Q a b r
  ranked_on_wider Any shape A B P Q a b r = r

  module _ (last : ℕ) (path : Path) (A B P Q : State → Type 0) where
    -- where a round that shrinks is settled, the fixpoint of wider sets holds
    pub weak_holds : (shape : Shape) → must_end shape ≡ false → ((s : State) → IsStateOf about s → A s → P s) → ((s : State) → IsStateOf about s → B s → Q s) → (s : State) → IsStateOf about s → FixKnown about last path shape A B s →
        SidesHold about path shape (HoldSide shape P Q) (EndSides shape P Q) s
    weak_holds shape may a b s is k =
        let known = (weak_known about last path A B shape may s).0 k in
        round_right about cases (HoldSide shape A B) (EndSides shape A B) (HoldSide shape P Q) (EndSides shape P Q)
        (λ t q x. hold_other shape A B P Q t (a t q) (b t q) x) (λ t q x. end_other shape A B P Q t (a t q) (b t q) x) (must_end shape) path known.round known.settled s is known.inside

    -- of rounds that grow, more is known of wider sets
    pub until_wider : (shape : Shape) → must_end shape ≡ true → ((s : State) → IsStateOf about s → A s → P s) → ((s : State) → IsStateOf about s → B s → Q s) → (s : State) → IsStateOf about s → FixKnown about last path shape A B s → FixKnown about last path shape P Q s
    until_wider shape must a b s is k = (until_known about last path P Q shape must s).1 (elim ((until_known about last path A B shape must s).0 k) [
      | inl r ↦ inl (fix_round_wider path shape A B P Q a b last s is r)
      | inr r ↦ inr (ranked_on_wider path shape A B P Q a b r)
    ])

    module _ (a : (s : State) → IsStateOf about s → A s ↔ P s) (b : (s : State) → IsStateOf about s → B s ↔ Q s) where
      settled_round_same : (shape : Shape) (s : State) → IsStateOf about s → InSettledRound about last path shape A B s → InSettledRound about last path shape P Q s
      settled_round_same shape s is k = record {
        round = k.round;
        early = k.early;
        settled = fix_settled_same about cases path shape P Q A B (λ t q. ((a t q).1, (a t q).0)) (λ t q. ((b t q).1, (b t q).0)) k.round k.settled;
        inside = fix_round_wider path shape A B P Q (λ t q x. (a t q).0 x) (λ t q x. (b t q).0 x) k.round s is k.inside;
      }

      -- of the same sets the same is known
      pub known_same : (shape : Shape) (s : State) → IsStateOf about s → FixKnown about last path shape A B s → FixKnown about last path shape P Q s
      known_same Until s is k = until_wider Until refl (λ t q x. (a t q).0 x) (λ t q x. (b t q).0 x) s is k
      known_same Strong s is k = until_wider Strong refl (λ t q x. (a t q).0 x) (λ t q x. (b t q).0 x) s is k
      known_same Weak s is k = settled_round_same Weak s is k
      known_same Release s is k = settled_round_same Release s is k

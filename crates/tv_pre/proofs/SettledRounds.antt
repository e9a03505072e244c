-- Rounds that are settled, and rounds of sides that have the same states.
use Rattle.std.proofs.Common.{◌⊎◌, inl, inr, ℕ, zero, suc, sym, subst, Bool, true, false}
use Rattle.std.specs.Prelude.{All, ◌↔◌}
use Rattle.tv_formula.specs.declared.tree.Path.{Path}
use Rattle.tv_formula.specs.declared.tree.Path.TheVariants.{Every, Any}
use Rattle.tv_formula.specs.declared.tree.Shape.{Shape}
use Rattle.tv_formula.specs.declared.tree.Shape.TheVariants.{Until, Weak, Release, Strong}
use Rattle.tv_formula.specs.Properties.{Property, truth, compare, at, term, negated, all_of, some_of, next, fix}
use Rattle.tv_program.specs.Steps.{State}
use Rattle.tv_meaning.specs.Meaning.{Holds}
use Rattle.tv_cases.specs.LinearCases.{CaseSystem, CaseSteps, IsCase}
use Rattle.tv_known.specs.Cycles.{HasCycle, IsStateOf}
use Rattle.tv_known.specs.Rounds.{GoesInto, StaysIn, GrowingRound, ShrinkingRound, RoundBy, HoldSide, EndSides, must_end, IsFixSettled, Goes, Stops}
use Rattle.tv_known.specs.Subformulas.{IsUnsettled}
use Rattle.tv_pre.specs.Told.{AcyclicIsSettled, NoneIsUnsettled}
use Rattle.tv_known.proofs.RoundLemmas.{stays_state}
use Rattle.tv_pre.proofs.ShortPaths.{IsShort, acyclic_short}

module _ {S : Type 0} (step : S → S → Type 0) where
  pub goes_by : (path : Path) (P Q : S → Type 0) (s : S) → ((t : S) → step s t → P t → Q t) → GoesInto step path P s → GoesInto step path Q s
  goes_by Every P Q s w h = (h.0, λ t st. w t st (h.1 t st))
  goes_by Any P Q s w h = (h.0, h.1, w h.0 h.1 h.2)

  pub stays_by : (path : Path) (P Q : S → Type 0) (s : S) → ((t : S) → step s t → P t → Q t) → StaysIn step path P s → StaysIn step path Q s
  stays_by Every P Q s w h = λ t st. w t st (h t st)
  stays_by Any P Q s w (inl h) = inl (h.0, h.1, w h.0 h.1 h.2)
  stays_by Any P Q s w (inr h) = inr h

  -- ---- where no path of k steps leaves a state
  goes_nowhere : (path : Path) (P : S → Type 0) (s : S) → ((t : S) → step s t → ⊥) → GoesInto step path P s → ⊥
  goes_nowhere Every P s n h = n h.0.0 h.0.1
  goes_nowhere Any P s n h = n h.0 h.1

  stops_there : (path : Path) (P : S → Type 0) (s : S) → ((t : S) → step s t → ⊥) → StaysIn step path P s
  stops_there Every P s n = λ t st. absurd (n t st)
  stops_there Any P s n = inr n

  module _ (Short : ℕ → S → Type 0) (nothing : (s : S) → Short zero s → ⊥) (below : (k : ℕ) (s t : S) → Short (suc k) s → step s t → Short k t) (path : Path) (hold end : S → Type 0) where
    growing_back : (k : ℕ) (s : S) → Short (suc k) s → GrowingRound step path hold end (suc k) s → GrowingRound step path hold end k s
    growing_back zero s short (inl h) = h
    growing_back zero s short (inr h) = absurd (goes_nowhere path end s (λ t st. nothing t (below zero s t short st)) h.1)
    growing_back (suc k) s short (inl h) = h
    growing_back (suc k) s short (inr h) = inr (h.0, goes_by path (GrowingRound step path hold end (suc k)) (GrowingRound step path hold end k) s (λ t st r. growing_back k t (below (suc k) s t short st) r) h.1)

    shrinking_on : (k : ℕ) (s : S) → Short (suc k) s → ShrinkingRound step path hold end k s → ShrinkingRound step path hold end (suc k) s
    shrinking_on zero s short (inl h) = inr (h, stops_there path (λ t. hold t ⊎ end t) s (λ t st. nothing t (below zero s t short st)))
    shrinking_on zero s short (inr h) = inl h
    shrinking_on (suc k) s short (inl h) = inl h
    shrinking_on (suc k) s short (inr h) = inr (h.0, stays_by path (ShrinkingRound step path hold end k) (ShrinkingRound step path hold end (suc k)) s (λ t st r. shrinking_on k t (below (suc k) s t short st) r) h.1)

    shrinking_back : (k : ℕ) (s : S) → ShrinkingRound step path hold end (suc k) s → ShrinkingRound step path hold end k s
    shrinking_back zero s (inl h) = inr h
    shrinking_back zero s (inr h) = inl h.0
    shrinking_back (suc k) s (inl h) = inl h
    shrinking_back (suc k) s (inr h) = inr (h.0, stays_by path (ShrinkingRound step path hold end (suc k)) (ShrinkingRound step path hold end k) s (λ t st r. shrinking_back k t r) h.1)

    pub short_settles : (grows : Bool) (k : ℕ) (s : S) → Short (suc k) s → RoundBy grows step path hold end k s ↔ RoundBy grows step path hold end (suc k) s
    short_settles true k s short = (λ h. inl h, λ h. growing_back k s short h)
    short_settles false k s short = (λ h. shrinking_on k s short h, λ h. shrinking_back k s h)

  -- ---- rounds of wider sides
  module _ (Ok : S → Type 0) (stays : (s t : S) → Ok s → step s t → Ok t) (path : Path) (h e k n : S → Type 0) (a : (s : S) → Ok s → h s → k s) (b : (s : S) → Ok s → e s → n s) where
    growing_wider : (j : ℕ) (s : S) → Ok s → GrowingRound step path h e j s → GrowingRound step path k n j s
    growing_wider zero s ok r = b s ok r
    growing_wider (suc j) s ok (inl r) = inl (growing_wider j s ok r)
    growing_wider (suc j) s ok (inr r) = inr (a s ok r.0, goes_by path (GrowingRound step path h e j) (GrowingRound step path k n j) s (λ t st x. growing_wider j t (stays s t ok st) x) r.1)

    shrinking_wider : (j : ℕ) (s : S) → Ok s → ShrinkingRound step path h e j s → ShrinkingRound step path k n j s
    shrinking_wider zero s ok (inl r) = inl (a s ok r)
    shrinking_wider zero s ok (inr r) = inr (b s ok r)
    shrinking_wider (suc j) s ok (inl r) = inl (b s ok r)
    shrinking_wider (suc j) s ok (inr r) = inr (a s ok r.0, stays_by path (ShrinkingRound step path h e j) (ShrinkingRound step path k n j) s (λ t st x. shrinking_wider j t (stays s t ok st) x) r.1)

    pub round_wider : (grows : Bool) (j : ℕ) (s : S) → Ok s → RoundBy grows step path h e j s → RoundBy grows step path k n j s
    round_wider true j s ok r = growing_wider j s ok r
    round_wider false j s ok r = shrinking_wider j s ok r

module _ (about : CaseSystem) (cases : All (IsCase about.variables about.locations) about.cases) where
  -- ---- programs without a cycle
  acyclic_by : (HasCycle about → ⊥) → (path : Path) (grows : Bool) (hold end : State → Type 0) → (s : State) → IsStateOf about s → RoundBy grows (CaseSteps about) path hold end about.locations s ↔ RoundBy grows (CaseSteps about) path hold end (suc about.locations) s
  acyclic_by none path grows hold end s is =
      short_settles (CaseSteps about) (λ k t. IsShort about.cases k t.location) (λ t h. h)
      (λ k t u short st. subst (λ l. IsShort about.cases k l) (sym st.does.enters) (short st.taken st.among (sym st.does.leaves)))
      path hold end grows about.locations s (acyclic_short about cases none s.location is.location)

  pub acyclic_round : (path : Path) (shape : Shape) (hold end : State → Type 0) → AcyclicIsSettled about path shape hold end
  acyclic_round path shape hold end none = acyclic_by none path (must_end shape) hold end

  acyclic_settles : (HasCycle about → ⊥) → (path : Path) (shape : Shape) (f g : State → Type 0) → IsFixSettled about path shape f g about.locations
  acyclic_settles none path shape f g = acyclic_by none path (must_end shape) (HoldSide shape f g) (EndSides shape f g)

  unsettled_not : (HasCycle about → ⊥) → (f : Property) → IsUnsettled about about.locations (negated f) → ⊥
  unsettled_not none term u = u (acyclic_settles none Any Release (λ s. ⊥) (Goes about))
  unsettled_not none (truth b) u = u
  unsettled_not none (compare r a b) u = u
  unsettled_not none (at l) u = u
  unsettled_not none (negated f) u = u
  unsettled_not none (all_of fs) u = u
  unsettled_not none (some_of fs) u = u
  unsettled_not none (next path f) u = u
  unsettled_not none (fix path shape f g) u = u

  acyclic_open : (HasCycle about → ⊥) → (f : Property) → IsUnsettled about about.locations f → ⊥
  acyclic_open none (truth b) u = u
  acyclic_open none (compare r a b) u = u
  acyclic_open none (at l) u = u
  acyclic_open none term u = u (acyclic_settles none Every Until (λ s. Unit {0}) (Stops about))
  acyclic_open none (negated f) u = unsettled_not none f u
  acyclic_open none (all_of fs) u = u
  acyclic_open none (some_of fs) u = u
  acyclic_open none (next path f) u = u
  acyclic_open none (fix path shape f g) u = u (acyclic_settles none path shape (λ s. Holds (CaseSteps about) f s) (λ s. Holds (CaseSteps about) g s))

  pub none_unsettled : (f : Property) → NoneIsUnsettled about f
  none_unsettled f none u = acyclic_open none f u

  -- ---- sides with the same states
  pub settled_same : (path : Path) (grows : Bool) (h e k n : State → Type 0) → ((s : State) → IsStateOf about s → h s ↔ k s) → ((s : State) → IsStateOf about s → e s ↔ n s) → (j : ℕ) →
      ((s : State) → IsStateOf about s → RoundBy grows (CaseSteps about) path k n j s ↔ RoundBy grows (CaseSteps about) path k n (suc j) s) →
      (s : State) → IsStateOf about s → RoundBy grows (CaseSteps about) path h e j s ↔ RoundBy grows (CaseSteps about) path h e (suc j) s
  settled_same path grows h e k n a b j settled s is =
      let there = λ (i : ℕ). round_wider (CaseSteps about) (IsStateOf about) (λ t u q st. stays_state about cases t u q st) path h e k n (λ t q x. (a t q).0 x) (λ t q x. (b t q).0 x) grows i s is in
      let back = λ (i : ℕ). round_wider (CaseSteps about) (IsStateOf about) (λ t u q st. stays_state about cases t u q st) path k n h e (λ t q x. (a t q).1 x) (λ t q x. (b t q).1 x) grows i s is in
      (λ r. back (suc j) ((settled s is).0 (there j r)), λ r. back j ((settled s is).1 (there (suc j) r)))

  hold_same : (shape : Shape) (A B P Q : State → Type 0) → ((s : State) → IsStateOf about s → A s ↔ P s) → ((s : State) → IsStateOf about s → B s ↔ Q s) → (s : State) → IsStateOf about s → HoldSide shape A B s ↔ HoldSide shape P Q s
  hold_same Until A B P Q a b s is = a s is
  hold_same Weak A B P Q a b s is = a s is
  hold_same Release A B P Q a b s is = b s is
  hold_same Strong A B P Q a b s is = b s is

  ends_same : (shape : Shape) (A B P Q : State → Type 0) → ((s : State) → IsStateOf about s → A s ↔ P s) → ((s : State) → IsStateOf about s → B s ↔ Q s) → (s : State) → IsStateOf about s → EndSides shape A B s ↔ EndSides shape P Q s
  ends_same Until A B P Q a b s is = b s is
  ends_same Weak A B P Q a b s is = b s is
  ends_same Release A B P Q a b s is = (λ h. ((a s is).0 h.0, (b s is).0 h.1), λ h. ((a s is).1 h.0, (b s is).1 h.1))
  ends_same Strong A B P Q a b s is = (λ h. ((a s is).0 h.0, (b s is).0 h.1), λ h. ((a s is).1 h.0, (b s is).1 h.1))

  pub fix_settled_same : (path : Path) (shape : Shape) (A B P Q : State → Type 0) → ((s : State) → IsStateOf about s → A s ↔ P s) → ((s : State) → IsStateOf about s → B s ↔ Q s) → (j : ℕ) → IsFixSettled about path shape P Q j → IsFixSettled about path shape A B j
  fix_settled_same path shape A B P Q a b j settled =
      settled_same path (must_end shape) (HoldSide shape A B) (EndSides shape A B) (HoldSide shape P Q) (EndSides shape P Q) (hold_same shape A B P Q a b) (ends_same shape A B P Q a b) j settled

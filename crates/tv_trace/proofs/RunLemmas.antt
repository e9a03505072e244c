-- The states along a run that is followed.
use Rattle.std.proofs.Common.{◌≡◌, ℕ, zero, suc, ◌+◌, ◌-◌, ◌<◌, ◌∙◌, inl, inr, List, [], ◌∷◌, ◌++◌, Bool, true, false, Result, Ok, Err, Vec, refl, sym, ap, subst, arith}
use Rattle.std.specs.Global.{Global}
use Rattle.std.proofs.lemmas.List.{map-append}
use Rattle.tv_linear.proofs.ListLaws.{last_or_below}
use Rattle.tv_program.specs.Steps.{State, Steps}
use Rattle.tv_program.specs.Systems.{System}
use Rattle.tv_program.specs.Runs.{IsRun, follow}
use Rattle.tv_cert.specs.declared.node.Proof.{Proof}
use Rattle.tv_sound.specs.Following.{Spot, followed}
use Rattle.tv_trace.specs.declared.shown.Shown.{Shown}
use Rattle.tv_trace.specs.declared.shown.TraceFault.{TraceFault}
use Rattle.tv_trace.specs.declared.shown.TraceFault.TheVariants as fault
use Rattle.tv_trace.specs.declared.fault.StepFault.{StepFault}
use Rattle.tv_trace.specs.declared.fault.StepFault.TheVariants.{Wide, Memory}
use Rattle.tv_trace.specs.Steps.{IsStepFault, IsAt, IsStop}
use Rattle.tv_trace.specs.Tracing.{state_of, states_of, states_along, AreHeld, AreAllShown, AreShownBefore, AreRun, IsTraceFault, Traces, shown_states}
use Rattle.tv_trace.specs.Widths.{step_is_held}

-- n steps were made: these states are shown, and this is where the run stands
pub record Along (p : System) (rule : Spot → Spot) (first : Spot) (n : ℕ) (shown : List Shown) (proof : Proof) (state : Shown) : Type 0 where
  pub states : states_of shown ≡ states_along rule first n
  pub held : AreHeld p rule first n
  pub at : IsAt proof state (follow rule first n)

module _ (p : System) (rule : Spot → Spot) (first : Spot) where
  one_more : (n : ℕ) → states_along rule first n ++ (follow rule first n).state ∷ [] ≡ states_along rule first (suc n)
  one_more zero = refl
  one_more (suc n) = refl

  pub along-first : (proof : Proof) (state : Shown) → IsAt proof state first → Along p rule first 0 [] proof state
  along-first proof state at = record { states = refl; held = λ i below. absurd (omega arith); at = at }

  module _ (n : ℕ) (shown : List Shown) (proof : Proof) (state : Shown) (h : Along p rule first n shown proof state) where
    with_last : states_of (shown ++ state ∷ []) ≡ states_along rule first (suc n)
    with_last =
        map-append state_of shown (state ∷ [])
        ∙ (λ i. h.states i ++ sym h.at.state_is i ∷ [])
        ∙ one_more n

    held_more : step_is_held p (follow rule first n) ≡ true → AreHeld p rule first (suc n)
    held_more e i below = elim (last_or_below n i (let k : i < n + 1 = omega arith in k)) [
      | inl last ↦ ap (λ k. step_is_held p (follow rule first k)) last ∙ e
      | inr earlier ↦ h.held i earlier
    ]

    pub along-next : (next : Proof) (further : Shown) → step_is_held p (follow rule first n) ≡ true → IsAt next further (rule (follow rule first n)) → Along p rule first (n + 1) (shown ++ state ∷ []) next further
    along-next next further held at =
        let more : Along p rule first (suc n) (shown ++ state ∷ []) next further = record { states = with_last; held = held_more held; at = at } in
        subst (λ k. Along p rule first k (shown ++ state ∷ []) next further) (let k : suc n ≡ n + 1 = omega arith in k) more

    pub all_shown : (count : ℕ) → 0 < count → n ≡ count - 1 → AreAllShown p rule first count (shown ++ state ∷ [])
    all_shown count some last =
        let many : suc n ≡ count = omega arith in
        record {
          states = with_last ∙ ap (states_along rule first) many;
          held = subst (AreHeld p rule first) last h.held;
        }

    pub shown_before : (count : ℕ) → n < count - 1 → step_is_held p (follow rule first n) ≡ false → AreShownBefore p rule first count (shown ++ state ∷ [])
    shown_before count fewer wide = record { steps = n; fewer = omega arith; states = with_last; first_wide = record { before = h.held; wide = wide } }

  -- the states along a run are one
  pub are_run : ((n : ℕ) → IsRun (Steps p) first.state (followed rule first n)) → (n : ℕ) (states : List State) → states ≡ states_along rule first n → AreRun p states
  are_run runs zero states e = subst (AreRun p) (sym e) tt
  are_run runs (suc n) states e = subst (AreRun p) (sym e) (runs n)

-- what comes of a fault of the step after these states
pub stop_is : (p : System) (rule : Spot → Spot) (first : Spot) (count : ℕ) (held : Bool) (fault : StepFault) (states : List Shown) (result : TraceFault) → IsStepFault held fault → IsStop fault states result → (held ≡ false → AreShownBefore p rule first count states) → IsTraceFault p rule first count result
stop_is p rule first count held Wide states (fault.Wide shown) e h k = subst (AreShownBefore p rule first count) (sym h) (k e)
stop_is p rule first count held Wide states fault.Memory e h k = tt
stop_is p rule first count held Memory states (fault.Wide shown) e h k = absurd h
stop_is p rule first count held Memory states fault.Memory e h k = tt

-- the states that are shown are a run
pub shown_run : (p : System) (rule : Spot → Spot) (first : Spot) → ((n : ℕ) → IsRun (Steps p) first.state (followed rule first n)) → (count : ℕ) (result : Result (Vec Shown Global) TraceFault) → Traces p rule first count result → AreRun p (shown_states result)
shown_run p rule first runs count (Ok v) h = are_run p rule first runs count (states_of v.items) h.states
shown_run p rule first runs count (Err (fault.Wide v)) h = are_run p rule first runs (suc h.steps) (states_of v.items) h.states
shown_run p rule first runs count (Err fault.Memory) h = tt

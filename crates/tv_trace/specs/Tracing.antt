-- What is shown of an endless run.
use Rattle.std.specs.Prelude.{◌≡◌, ◌<◌, ◌-◌, ℕ, zero, suc, ℤ, List, [], ◌∷◌, map, true, false, Result, Ok, Err, MatchResult, Vec}
use Rattle.std.specs.Global.{Global}
use Rattle.tv_program.specs.Steps.{State, Steps}
use Rattle.tv_program.specs.Systems.{System}
use Rattle.tv_program.specs.Runs.{IsRun, follow}
use Rattle.tv_formula.specs.Properties.{Property, term}
use Rattle.tv_formula.specs.Normal.{normal}
use Rattle.tv_cases.specs.LinearCases.{CaseSystem}
use Rattle.tv_cert.specs.declared.claim.Claim.{Claim}
use Rattle.tv_cert.specs.declared.node.Node.{Node}
use Rattle.tv_cert.specs.declared.node.Verdict.{Verdict}
use Rattle.tv_cert.specs.declared.node.Verdict.TheVariants.{Proved, Disproved}
use Rattle.tv_cert.specs.Claims.{IsClaim}
use Rattle.tv_sound.specs.Following.{Spot, all_offered, onward, followed, Follows}
use Rattle.tv_trace.specs.declared.shown.Shown.{Shown}
use Rattle.tv_trace.specs.declared.shown.TraceFault.{TraceFault}
use Rattle.tv_trace.specs.declared.shown.TraceFault.TheVariants.{Wide, Memory}
use Rattle.tv_trace.specs.Widths.{step_is_held}

-- the claim is that all runs end
pub record ClaimsEnd (c : Claim) : Type 0 where
  pub property : Property
  pub claimed : IsClaim c property
  pub ends : normal property ≡ term

abbrev pub IsDisproved : Verdict → Type 0
IsDisproved (Proved start) = ⊥
IsDisproved (Disproved k values) = Unit {0}

-- the state that is shown
abbrev pub state_of : Shown → State
state_of s = record { location = s.location; values = s.values.items }

abbrev pub states_of : List Shown → List State
states_of shown = map state_of shown

-- the states that a result shows
abbrev pub shown_states : Result (Vec Shown Global) TraceFault → List State
shown_states (Ok shown) = states_of shown.items
shown_states (Err (Wide shown)) = states_of shown.items
shown_states (Err Memory) = []

-- the states are a run of the program
abbrev pub AreRun : System → List State → Type 0
AreRun p [] = Unit {0}
AreRun p (s ∷ ts) = IsRun (Steps p) s ts

-- the first n states that a rule leads along
abbrev pub states_along : (Spot → Spot) → Spot → ℕ → List State
states_along rule first zero = []
states_along rule first (suc n) = first.state ∷ followed rule first n

-- all numbers on the way of each of the first n steps are held
abbrev pub AreHeld : System → (Spot → Spot) → Spot → ℕ → Type 0
AreHeld p rule first n = (i : ℕ) → i < n → step_is_held p (follow rule first i) ≡ true

-- the first step with a number that is not held is step n, counted from 0
pub record IsFirstWide (p : System) (rule : Spot → Spot) (first : Spot) (n : ℕ) : Type 0 where
  pub before : AreHeld p rule first n
  pub wide : step_is_held p (follow rule first n) ≡ false

-- the first `count` states are shown
pub record AreAllShown (p : System) (rule : Spot → Spot) (first : Spot) (count : ℕ) (shown : List Shown) : Type 0 where
  pub states : states_of shown ≡ states_along rule first count
  pub held : AreHeld p rule first (count - 1)

-- the states before the first step with a number that is not held are shown: they are fewer than `count`
pub record AreShownBefore (p : System) (rule : Spot → Spot) (first : Spot) (count : ℕ) (shown : List Shown) : Type 0 where
  pub steps : ℕ
  pub fewer : suc steps < count
  pub states : states_of shown ≡ states_along rule first (suc steps)
  pub first_wide : IsFirstWide p rule first steps

abbrev pub IsTraceFault : System → (Spot → Spot) → Spot → ℕ → TraceFault → Type 0
IsTraceFault p rule first count (Wide shown) = AreShownBefore p rule first count shown.items
IsTraceFault p rule first count Memory = Unit {0}

-- the result shows the first `count` states that the rule leads along, or those before the first step with a number that is not held
abbrev pub Traces : System → (Spot → Spot) → Spot → ℕ → Result (Vec Shown Global) TraceFault → Type 0
Traces p rule first count result = MatchResult result (λ v. AreAllShown p rule first count v.items) (IsTraceFault p rule first count)

-- what is shown is of the endless run that begins at the values, in the piece of the root that is named
pub record IsTraceOf (p : System) (system : CaseSystem) (root : Node) (k : ℕ) (values : List ℤ) (count : ℕ) (result : Result (Vec Shown Global) TraceFault) : Type 0 where
  pub follows : Follows p system root k values
  pub traces : Traces p (onward system (all_offered root)) follows.first count result

abbrev pub TracesFrom : System → CaseSystem → Node → Verdict → ℕ → Result (Vec Shown Global) TraceFault → Type 0
TracesFrom p system root (Proved start) count result = Unit {0}
TracesFrom p system root (Disproved k values) count result = IsTraceOf p system root k values.items count result

-- the states and steps of a run are one that comes to its location
use Rattle.std.proofs.Common.{◌≡◌, ℕ, suc, ◌+◌, ◌∙◌, List, [], ◌∷◌, ◌++◌, length, map, All, Some, slice_get, ℤ, true, inr, ◌⊎◌, refl, sym, ap, subst, arith}
use Rattle.std.specs.Global.{Vec}
use Rattle.std.proofs.lemmas.List.Elements.{All-head, All-tail}
use Rattle.tv_linear.specs.Linear.{IsWithin}
use Rattle.tv_program.specs.Steps as programs
use Rattle.tv_program.specs.Runs.{last_of}
use Rattle.tv_cases.specs.LinearCases.{CaseSystem}
use Rattle.tv_points.specs.States.{seen, IsState, AreSteps, AreInOrder, ComesTo, StartsAt}
use Rattle.tv_points.specs.declared.state.State.{State}
use Rattle.tv_points.specs.declared.step.Step.{Step}
use Rattle.tv_reaching.specs.declared.found.Found.{Found}
use Rattle.tv_reaching.specs.FoundRuns.{IsAlong, IsFoundRun, IsWideRun, IsLineFaultOf, AreOf, RunsThrough, first_state, lists_of}
use Rattle.tv_reaching.specs.Making.{ArePushed, AreStepsPushed}
use Rattle.tv_formula.specs.Properties.{Property}
use Rattle.tv_shape.specs.declared.certificate.Certificate.{Certificate}
use Rattle.tv_points.specs.Lines.{IsLineFault}
use Rattle.tv_points.specs.RunLines.{run_lines}
use Rattle.tv_points.specs.Nodes.{IsDisproof, DisprovesFirst}
use Rattle.tv_points.specs.declared.fault.PointFault.{PointFault}
use Rattle.std.proofs.lemmas.List.{length-map}

abbrev taken_of : List Step → List ℕ
taken_of steps = map (λ (s : Step). s.taken) steps

abbrev draws_of : List Step → List (List ℤ)
draws_of steps = map (λ (s : Step). s.draws.items) steps

-- a run has a state for each case, and draws for each
pub along_lengths : (about : CaseSystem) (path : List ℕ) (draws : List (List ℤ)) (s : programs.State) (run : List programs.State) → IsAlong about path draws s run → (length draws ≡ length path) × (length run ≡ length path)
along_lengths about [] [] s [] h = (refl, refl)
along_lengths about [] [] s (t ∷ run) h = absurd h
along_lengths about [] (ds ∷ draws) s run h = absurd h
along_lengths about (k ∷ path) [] s run h = absurd h
along_lengths about (k ∷ path) (ds ∷ draws) s [] h = absurd h
along_lengths about (k ∷ path) (ds ∷ draws) s (t ∷ run) h = let a = along_lengths about path draws t run h.1 in (ap suc a.0, ap suc a.1)

pub even : (about : CaseSystem) (path : List ℕ) (draws : List (Vec ℤ)) (s : programs.State) (run : List programs.State) → IsAlong about path (lists_of draws) s run → length draws ≡ length path
even about path draws s run h = sym (length-map draws (λ (v : Vec ℤ). v.items)) ∙ (along_lengths about path (lists_of draws) s run h).0

-- from the place on, the list goes on with these
abbrev Reads : {A : Type 0} → List A → ℕ → List A → Type 0
Reads xs place rest = (k : ℕ) → slice_get xs (place + k) ≡ slice_get rest k

reads_on : {A : Type 0} (xs : List A) (place : ℕ) (x : A) (rest : List A) → Reads xs place (x ∷ rest) → Reads xs (place + 1) rest
reads_on xs place x rest r k = ap (slice_get xs) (let e : (place + 1) + k ≡ place + suc k = omega arith in e) ∙ r (suc k)

reads_here : {A : Type 0} (xs : List A) (place : ℕ) (x : A) (rest : List A) → Reads xs place (x ∷ rest) → slice_get xs place ≡ Some x
reads_here xs place x rest r = ap (slice_get xs) (let e : place ≡ place + 0 = omega arith in e) ∙ r 0

-- each step leads on
steps_lead : (about : CaseSystem) (states : List State) (place : ℕ) (steps : List Step) (s : State) (rest : List State) → Reads states place (s ∷ rest) →
    IsAlong about (taken_of steps) (draws_of steps) (seen s) (map seen rest) → All (All (IsWithin 62)) (draws_of steps) → AreInOrder place steps → AreSteps about states place steps
steps_lead about states place [] s rest r h narrow order = tt {0}
steps_lead about states place (step ∷ steps) s [] r h narrow order = absurd h
steps_lead about states place (step ∷ steps) s (t ∷ rest) r h narrow order = (
  record {
    before = s;
    after = t;
    here = reads_here states place s (t ∷ rest) r;
    there = ap (slice_get states) order.0 ∙ reads_here states (place + 1) t rest (reads_on states place s (t ∷ rest) r);
    leads = record {
      taken = h.0.taken;
      found = h.0.found;
      does = h.0.does;
      narrow = All-head (All (IsWithin 62)) step.draws.items (draws_of steps) narrow;
    };
  },
  steps_lead about states (place + 1) steps t rest (reads_on states place s (t ∷ rest) r) h.1 (All-tail (All (IsWithin 62)) step.draws.items (draws_of steps) narrow) order.1,
)

-- the last state
record Last (states : List State) (place : ℕ) (end : programs.State) : Type 0 where
  state : State
  there : slice_get states place ≡ Some state
  is : seen state ≡ end

last_is : (s : State) (rest : List State) → Last (s ∷ rest) (length rest) (last_of (seen s) (map seen rest))
last_is s [] = record { state = s; there = refl; is = refl }
last_is s (t ∷ rest) = let l = last_is t rest in record { state = l.state; there = l.there; is = l.is }

module _ (about : CaseSystem) (found : Found) (h : IsFoundRun about found) where
  -- the states from a first one on
  comes_from : (s : State) (rest : List State) (steps : List Step) → AreOf about found h.run (s ∷ rest) steps → All (IsState about) (s ∷ rest) → ComesTo about found.location (s ∷ rest) steps
  comes_from s rest steps parts each =
      let first : seen s ≡ first_state about found = cc in
      let later : map seen rest ≡ h.run = cc in
      let lengths = along_lengths about found.path.now (lists_of found.draws.now) (first_state about found) h.run h.along in
      let many : length rest ≡ length h.run = sym (length-map rest seen) ∙ ap length later in
      let taken : length steps ≡ length found.path.now = sym (length-map steps (λ (s : Step). s.taken)) ∙ ap length parts.path in
      let same : length rest ≡ length steps = many ∙ lengths.1 ∙ sym taken in
      let l = last_is s rest in
      let bounded = h.bounded in
      record {
        states_are = record { each = each; bounded = omega (arith, many, lengths.1, bounded) };
        as_many = omega (arith, same);
        leads = steps_lead about (s ∷ rest) 0 steps s rest (λ k. ap (slice_get (s ∷ rest)) (let e : 0 + k ≡ k = omega arith in e))
            (subst (λ p. IsAlong about p (draws_of steps) (seen s) (map seen rest)) (sym parts.path)
            (subst (λ ds. IsAlong about found.path.now ds (seen s) (map seen rest)) (sym parts.draws)
            (subst (λ t. IsAlong about found.path.now (lists_of found.draws.now) t (map seen rest)) (sym first)
            (subst (λ r. IsAlong about found.path.now (lists_of found.draws.now) (first_state about found) r) (sym later) h.along))))
            (subst (All (All (IsWithin 62))) (sym parts.draws) h.narrow_draws) parts.in_order;
        in_order = parts.in_order;
        last = l.state;
        ends = subst (λ k. slice_get (s ∷ rest) k ≡ Some l.state) same l.there;
        at = ap (λ (t : programs.State). t.location) (l.is ∙ (λ i. last_of (first i) (later i))) ∙ h.ends;
      }

  pub comes : (states : List State) (steps : List Step) → AreOf about found h.run states steps → All (IsState about) states → ComesTo about found.location states steps
  comes [] steps parts each = absurd (let e = parts.states_are in cc)
  comes (s ∷ rest) steps parts each = comes_from s rest steps parts each

  pub starts : (states : List State) (steps : List Step) → AreOf about found h.run states steps → StartsAt about states
  starts [] steps parts = absurd (let e = parts.states_are in cc)
  starts (s ∷ rest) steps parts = record {
    first = s;
    here = refl;
    start = (let e : seen s ≡ first_state about found = cc in ap (λ (t : programs.State). t.location) e);
  }

-- ---- what was pushed
pub record Made (about : CaseSystem) (found : Found) (run : List programs.State) (states : List State) (steps : List Step) : Type 0 where
  pub parts : AreOf about found run states steps
  pub each : All (IsState about) states

pub made : (about : CaseSystem) (found : Found) (first : State) (none states shown : List State) (nothing steps seen_steps : List Step) → seen first ≡ first_state about found → none ≡ [] → nothing ≡ [] → shown ≡ states → seen_steps ≡ steps →
    ((run : List programs.State) → IsAlong about found.path.now (lists_of found.draws.now) (seen first) run → ArePushed about (seen first ∷ run) none states) →
    AreStepsPushed found.path.now (lists_of found.draws.now) 0 nothing steps →
    (run : List programs.State) → RunsThrough about found run → Made about found run shown seen_steps
made about found first none states shown nothing steps seen_steps is e f same same_steps pushed t run along =
    let s = pushed run (subst (λ u. IsAlong about found.path.now (lists_of found.draws.now) u run) (sym is) along) in
    let states_parts : shown ≡ s.more = same ∙ s.parts ∙ ap (λ xs. xs ++ s.more) e in
    let steps_parts : seen_steps ≡ t.more = same_steps ∙ t.parts ∙ ap (λ xs. xs ++ t.more) f in
    record {
      parts = record {
        states_are = ap (map seen) states_parts ∙ s.same ∙ ap (λ u. u ∷ run) is;
        path = ap taken_of steps_parts ∙ t.path_is;
        draws = ap draws_of steps_parts ∙ t.draws_are;
        in_order = subst (AreInOrder 0) (sym steps_parts) t.in_order;
      };
      each = subst (All (IsState about)) (sym states_parts) s.each;
    }

-- the certificate is at the values of the run
pub disproof : (about : CaseSystem) (found : Found) (run : List programs.State) (states : List State) (steps : List Step) (f : Property) (c : Certificate) → AreOf about found run states steps → DisprovesFirst about f states c → IsDisproof about f found.values.now c
disproof about found run [] steps f c parts h = absurd (let e = parts.states_are in cc)
disproof about found run (s ∷ rest) steps f c parts h =
    let e : seen s ≡ first_state about found = (let e = parts.states_are in cc) in
    subst (λ xs. IsDisproof about f xs c) (ap (λ (t : programs.State). t.values) e) (h s refl)

pub refused : (about : CaseSystem) (found : Found) (run : List programs.State) (states : List State) (steps : List Step) (fault : PointFault) → Made about found run states steps → IsLineFault (run_lines about true states 0 steps) fault → IsWideRun run fault ⊎ IsLineFaultOf about found run fault
refused about found run states steps fault m h = inr (record { states = states; steps = steps; parts = m.parts; narrow = m.each; lines = h })

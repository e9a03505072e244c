-- the proofs at the pieces of a run, one after another
use Rattle.std.proofs.Common.{◌≡◌, ℕ, zero, suc, ◌+◌, ◌-◌, ◌^◌, ◌<◌, ◌≤◌, List, [], ◌∷◌, ◌++◌, length, take, drop, get_or, All, Some, slice_get, Bool, true, false, arith, refl, sym, ap, subst, ◌∙◌}
use Rattle.std.specs.Prelude.{Result, Ok, Err, MatchResult}
use Rattle.std.specs.List.{AllZip}
use Rattle.std.proofs.lemmas.List.{append_assoc, append-nil}
use Rattle.tv_cases.specs.LinearCases.{CaseSystem}
use Rattle.tv_cases.specs.Systems.{cases_of}
use Rattle.tv_linear.specs.declared.choice.ChoiceTree.{ChoiceTree}
use Rattle.tv_linear.proofs.ListLaws.{drop_past}
use Rattle.tv_cert.specs.declared.node.Marked.{Marked}
use Rattle.tv_cert.specs.declared.node.Proof.{Proof}
use Rattle.tv_cert.specs.Pieces.{goes}
use Rattle.tv_points.specs.Lines.{IsShown, lines_at, IsLineFault}
use Rattle.tv_points.specs.RunLines.{lines_between, step_lines, run_lines}
use Rattle.tv_points.specs.States.{IsState, IsStep, IsStepAt, AreSteps, AreStates}
use Rattle.tv_points.specs.StatePieces.{state_piece, piece_there}
use Rattle.tv_points.specs.Taking.{IsTaking, IsTakenBy, IsRefusedBy, step_rows, owed_rows}
use Rattle.tv_points.specs.Nodes.{IsRunMade, IsStepProof, IsChosenAt, IsBare, IsSecond, AreTwo, AreChoicesPushed, AreTwoPushed}
use Rattle.tv_points.specs.declared.fault.PointFault.{PointFault}
use Rattle.tv_points.specs.declared.state.State.{State}
use Rattle.tv_points.specs.declared.step.Step.{Step}
use Rattle.tv_points.specs.declared.steps.Run.{Run}
use Rattle.tv_points.specs.declared.taking.Taking.{Taking}
use Rattle.tv_points.proofs.PlaceLemmas.{got, got_all, piece_got, read_piece}
use Rattle.tv_points.proofs.PushLemmas.{fault_before, fault_behind}
use Rattle.tv_points.proofs.RunMet.{states_length}
use Rattle.std.proofs.Math.Seq.{take-length}
use Rattle.tv_cases.proofs.LeavingLemmas.{first_left}
use Rattle.std.proofs.lemmas.Option.{slice_get_within}

-- what is read at a place is what stands there
pub read_is : {A : Type 0} (xs : List A) (i : ℕ) (x d : A) → slice_get xs i ≡ Some x → x ≡ get_or xs i d
read_is [] i x d e = absurd cc
read_is (y ∷ xs) zero x d e = cc
read_is (y ∷ xs) (suc i) x d e = read_is xs i x d e

pub as_many : (run : Run) → IsRunMade run → length run.pieces.now ≡ length run.states.now
as_many run made = ap length made.pieces ∙ states_length (cases_of run.about.now).variables run.ends run.states.now

-- the piece that is read at the place of a state
pub piece_is : (run : Run) → IsRunMade run → (i : ℕ) (s : State) (p : Marked) → slice_get run.states.now i ≡ Some s → p ≡ get_or run.pieces.now i p → p ≡ piece_there (cases_of run.about.now).variables run.ends run.states.now i s
piece_is run made i s p e is =
    read_piece (cases_of run.about.now).variables run.ends run.states.now run.pieces.now i s p made.pieces e
    (got run.pieces.now i p (let l = slice_get_within run.states.now i s e in let m = as_many run made in omega (arith, l, m)) is)

-- ---- the step of the state at a place
module _ (t : Taking) (states : List State) (place : ℕ) (leads : IsStepAt (cases_of t.about.now) states place t.step.now) where
  abbrev n : ℕ
  n = (cases_of t.about.now).variables

  pub taking_is : AreStates (cases_of t.about.now) states → leads.before ≡ t.state.now → t.from.now ≡ piece_there n t.falls states place leads.before → t.into.now ≡ piece_there n t.falls states t.step.now.next leads.after → (t.falls ≡ true → place < t.step.now.next) → t.place < 2 ^ 32 → IsTaking t
  taking_is all before from into falling placed = record {
    state = subst (IsState (cases_of t.about.now)) before (got_all (IsState (cases_of t.about.now)) states place leads.before all.each leads.here);
    next = leads.after;
    enters = got_all (IsState (cases_of t.about.now)) states t.step.now.next leads.after all.each leads.there;
    leads = subst (λ s. IsStep (cases_of t.about.now) s t.step.now leads.after) before leads.leads;
    left = length states - (place + 1);
    from = from ∙ ap (state_piece n t.falls (length states - (place + 1))) before;
    less = length states - (t.step.now.next + 1);
    into = into;
    falling = λ e. (let l = falling e in let k = slice_get_within states t.step.now.next leads.after leads.there in omega (arith, l, k));
    placed = placed;
  }

  lines_are : leads.before ≡ t.state.now → t.from.now ≡ piece_there n t.falls states place leads.before → t.into.now ≡ piece_there n t.falls states t.step.now.next leads.after → lines_at t.state.now.values.items (owed_rows t) ≡ step_lines (cases_of t.about.now) t.falls states place t.step.now
  lines_are before from into =
      (λ i. lines_at (sym before i).values.items (step_rows (cases_of t.about.now) t.falls t.step.now (from i) (into i)))
      ∙ sym (λ i. lines_between (cases_of t.about.now) t.falls states place t.step.now (leads.here i) (leads.there i))

  pub lines_shown : (tree : ChoiceTree) → IsTakenBy t tree → leads.before ≡ t.state.now → t.from.now ≡ piece_there n t.falls states place leads.before → t.into.now ≡ piece_there n t.falls states t.step.now.next leads.after → All IsShown (step_lines (cases_of t.about.now) t.falls states place t.step.now)
  lines_shown tree h before from into = subst (All IsShown) (lines_are before from into) h.shown

  pub lines_refused : (x : PointFault) → IsRefusedBy t x → leads.before ≡ t.state.now → t.from.now ≡ piece_there n t.falls states place leads.before → t.into.now ≡ piece_there n t.falls states t.step.now.next leads.after → IsLineFault (step_lines (cases_of t.about.now) t.falls states place t.step.now) x
  lines_refused x h before from into = subst (λ ls. IsLineFault ls x) (lines_are before from into) h.lines

-- ---- the steps of a list
front_is : {A : Type 0} (xs : List A) (x : A) → 1 ≤ length xs → x ≡ get_or xs 0 x → xs ≡ x ∷ take (length xs - 1) (drop 1 xs)
front_is [] x h e = absurd (omega (arith, h))
front_is (y ∷ ys) x h e =
    let k : length (y ∷ ys) - 1 ≡ length ys = omega arith in
    let whole : take (length (y ∷ ys) - 1) ys ≡ ys = ap (λ j. take j ys) k ∙ take-length ys in
    (λ i. sym e i ∷ sym whole i)

pub first_step : (about : CaseSystem) (states : List State) (place : ℕ) (steps : List Step) (s : Step) → 1 ≤ length steps → s ≡ get_or steps 0 s → AreSteps about states place steps → IsStepAt about states place s
first_step about states place [] s l e h = absurd (omega (arith, l))
first_step about states place (y ∷ steps) s l e h = subst (IsStepAt about states place) (sym e) h.0

abbrev pub rest_of : List Step → List Step
rest_of steps = take (length steps - 1) (drop 1 steps)

pub lines_split : (about : CaseSystem) (ends : Bool) (states : List State) (place : ℕ) (steps : List Step) (s : Step) → 1 ≤ length steps → s ≡ get_or steps 0 s → run_lines about ends states place steps ≡ step_lines about ends states place s ++ run_lines about ends states (place + 1) (rest_of steps)
lines_split about ends states place steps s l e = ap (run_lines about ends states place) (front_is steps s l e)

pub first_fault : (about : CaseSystem) (ends : Bool) (states : List State) (place : ℕ) (steps : List Step) (s : Step) (x : PointFault) → 1 ≤ length steps → s ≡ get_or steps 0 s → IsLineFault (step_lines about ends states place s) x → IsLineFault (run_lines about ends states place steps) x
first_fault about ends states place steps s x l e h =
    subst (λ ls. IsLineFault ls x) (sym (lines_split about ends states place steps s l e)) (fault_before (step_lines about ends states place s) (run_lines about ends states (place + 1) (rest_of steps)) x h)

later_fault : (run : Run) (place : ℕ) (steps : List Step) (s : Step) (proof : Proof) (x : PointFault) → 1 ≤ length steps → s ≡ get_or steps 0 s → IsStepProof run place s proof → IsLineFault (run_lines (cases_of run.about.now) run.ends run.states.now (place + 1) (rest_of steps)) x → IsLineFault (run_lines (cases_of run.about.now) run.ends run.states.now place steps) x
later_fault run place steps s proof x l e h k =
    let about = cases_of run.about.now in
    subst (λ ls. IsLineFault ls x) (sym (lines_split about run.ends run.states.now place steps s l e)) (fault_behind (step_lines about run.ends run.states.now place s) (run_lines about run.ends run.states.now (place + 1) (rest_of steps)) x h.shown k)

-- ---- what is pushed

pub no_choices : (run : Run) (place : ℕ) (old : List Proof) → length run.pieces.now ≤ place → AreChoicesPushed run place old old
no_choices run place old l = record {
  more = [];
  parts = sym (append-nil old);
  each = subst (λ qs. AllZip (IsChosenAt (cases_of run.about.now) run.pieces.now run.ends) qs []) (sym (drop_past run.pieces.now place l)) tt;
}

there : (run : Run) → IsRunMade run → (place : ℕ) (s : Step) (leads : IsStepAt (cases_of run.about.now) run.states.now place s) → slice_get run.pieces.now place ≡ Some (piece_there (cases_of run.about.now).variables run.ends run.states.now place leads.before)
there run made place s leads = subst (λ ps. slice_get ps place ≡ Some (piece_there (cases_of run.about.now).variables run.ends run.states.now place leads.before)) (sym made.pieces) (piece_got (cases_of run.about.now).variables run.ends run.states.now place leads.before leads.here)

pub choices_more : {A : Type 0} (run : Run) (place : ℕ) (steps : List Step) (s : Step) (proof : Proof) (old mid new : List Proof) (r : Result A PointFault) → IsRunMade run → IsStepAt (cases_of run.about.now) run.states.now place s → 1 ≤ length steps → s ≡ get_or steps 0 s → IsStepProof run place s proof → mid ≡ old ++ proof ∷ [] → MatchResult r (λ _. AreChoicesPushed run (place + 1) mid new) (IsLineFault (run_lines (cases_of run.about.now) run.ends run.states.now (place + 1) (rest_of steps))) → MatchResult r (λ _. AreChoicesPushed run place old new) (IsLineFault (run_lines (cases_of run.about.now) run.ends run.states.now place steps))
choices_more run place steps s proof old mid new (Ok u) made leads l e h m k =
    let p = piece_there (cases_of run.about.now).variables run.ends run.states.now place leads.before in
    let at = there run made place s leads in
    record {
      more = proof ∷ k.more;
      parts = k.parts ∙ ap (λ ys. ys ++ k.more) m ∙ append_assoc old (proof ∷ []) k.more;
      each = subst (λ qs. AllZip (IsChosenAt (cases_of run.about.now) run.pieces.now run.ends) qs (proof ∷ k.more)) (sym (first_left run.pieces.now place p at)) (h.chosen p at, k.each);
    }
choices_more run place steps s proof old mid new (Err x) made leads l e h m k = later_fault run place steps s proof x l e h k

-- ---- a run that is to come to an end
goes_on : (n left : ℕ) (s : State) → 0 < left → goes (state_piece n true left s) ≡ true
goes_on n zero s h = absurd (omega (arith, h))
goes_on n (suc left) s h = refl

is_done : (n left : ℕ) (s : State) → left ≡ 0 → goes (state_piece n true left s) ≡ false
is_done n zero s h = refl
is_done n (suc left) s h = absurd (omega (arith, h))

last_there : {A : Type 0} (xs : List A) (i : ℕ) → length xs ≡ i + 1 → (x : A) × (slice_get xs i ≡ Some x)
last_there [] i e = absurd (omega (arith, e))
last_there (x ∷ []) zero e = (x, refl)
last_there (x ∷ y ∷ xs) zero e = absurd (omega (arith, e))
last_there (x ∷ xs) (suc i) e = last_there xs i (omega (arith, e))

pub last_pushed : (run : Run) (place : ℕ) (x y : Proof) (old mid new : List Proof) → IsRunMade run → run.ends ≡ true → length run.states.now ≡ place + 1 → IsBare x → IsBare y → mid ≡ old ++ x ∷ [] → new ≡ mid ++ y ∷ [] → AreTwoPushed run place old new
last_pushed run place x y old mid new made ends many bare bare2 m k =
    let about = cases_of run.about.now in
    let last = last_there run.states.now place many in
    let p = piece_there about.variables run.ends run.states.now place last.0 in
    let at : slice_get run.pieces.now place ≡ Some p = subst (λ ps. slice_get ps place ≡ Some p) (sym made.pieces) (piece_got about.variables run.ends run.states.now place last.0 last.1) in
    let left : length run.states.now - (place + 1) ≡ 0 = omega (arith, many) in
    let done : goes p ≡ false = subst (λ b. goes (state_piece about.variables b (length run.states.now - (place + 1)) last.0) ≡ false) (sym ends) (is_done about.variables (length run.states.now - (place + 1)) last.0 left) in
    let none : drop (place + 1) run.pieces.now ≡ [] = drop_past run.pieces.now (place + 1) (let a = as_many run made in omega (arith, a, many)) in
    record {
      more = x ∷ y ∷ [];
      parts = k ∙ ap (λ ys. ys ++ y ∷ []) m ∙ append_assoc old (x ∷ []) (y ∷ []);
      each = subst (λ qs. AreTwo about run.pieces.now qs (x ∷ y ∷ [])) (sym (first_left run.pieces.now place p at ∙ ap (λ qs. p ∷ qs) none))
          (bare, subst (λ g. IsSecond about run.pieces.now p g y) (sym done) bare2, tt);
    }

pub two_more : {A : Type 0} (run : Run) (place : ℕ) (steps : List Step) (s : Step) (x proof : Proof) (old mid both new : List Proof) (r : Result A PointFault) → IsRunMade run → IsStepAt (cases_of run.about.now) run.states.now place s → run.ends ≡ true → place + 1 < length run.states.now → 1 ≤ length steps → s ≡ get_or steps 0 s → IsStepProof run place s proof → IsBare x → mid ≡ old ++ x ∷ [] → both ≡ mid ++ proof ∷ [] → MatchResult r (λ _. AreTwoPushed run (place + 1) both new) (IsLineFault (run_lines (cases_of run.about.now) run.ends run.states.now (place + 1) (rest_of steps))) → MatchResult r (λ _. AreTwoPushed run place old new) (IsLineFault (run_lines (cases_of run.about.now) run.ends run.states.now place steps))
two_more run place steps s x proof old mid both new (Ok u) made leads ends more l e h bare m b k =
    let about = cases_of run.about.now in
    let p = piece_there about.variables run.ends run.states.now place leads.before in
    let at = there run made place s leads in
    let on : goes p ≡ true = subst (λ z. goes (state_piece about.variables z (length run.states.now - (place + 1)) leads.before) ≡ true) (sym ends) (goes_on about.variables (length run.states.now - (place + 1)) leads.before (omega (arith, more))) in
    let chosen : IsChosenAt about run.pieces.now true p proof = subst (λ z. IsChosenAt about run.pieces.now z p proof) ends (h.chosen p at) in
    record {
      more = x ∷ proof ∷ k.more;
      parts = k.parts ∙ ap (λ ys. ys ++ k.more) (b ∙ ap (λ ys. ys ++ proof ∷ []) m ∙ append_assoc old (x ∷ []) (proof ∷ [])) ∙ append_assoc old (x ∷ proof ∷ []) k.more;
      each = subst (λ qs. AreTwo about run.pieces.now qs (x ∷ proof ∷ k.more)) (sym (first_left run.pieces.now place p at))
          (bare, subst (λ g. IsSecond about run.pieces.now p g proof) (sym on) chosen, k.each);
    }
two_more run place steps s x proof old mid both new (Err f) made leads ends more l e h bare m b k = later_fault run place steps s proof f l e h k

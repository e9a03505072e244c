-- runs, one step after another
use Rattle.std.proofs.Common.{◌≡◌, ℕ, ◌+◌, ◌≤◌, ◌∙◌, List, [], ◌∷◌, ◌++◌, length, get_or, All, ℤ, refl, sym, ap, subst, arith}
use Rattle.std.specs.Prelude.{Result, MatchResult}
use Rattle.std.specs.Global.{Vec}
use Rattle.std.proofs.lemmas.List.{append_assoc}
use Rattle.std.proofs.lemmas.List.Elements.{All-head, All-tail, All-cons}
use Rattle.std.proofs.lemmas.Result.{MatchResult-weaker}
use Rattle.tv_linear.specs.Linear.{IsWithin}
use Rattle.tv_program.specs.Steps as programs
use Rattle.tv_cases.specs.LinearCases.{CaseSystem}
use Rattle.tv_points.specs.States.{seen, IsState}
use Rattle.tv_points.specs.declared.state.State.{State}
use Rattle.tv_points.specs.declared.fault.PointFault.{PointFault}
use Rattle.tv_points.specs.declared.fault.PointFault.TheVariants.{Wide, Memory}
use Rattle.tv_reaching.specs.FoundRuns.{IsAlong, Takes, IsWideRun, lists_of}
use Rattle.tv_reaching.specs.Making.{IsNext, IsWideValue, CanRun, ArePushed}
use Rattle.tv_reaching.proofs.ValueLemmas.{rest_of, rest_is}

-- the first step of a run, and the steps after it
pub record Front (about : CaseSystem) (k : ℕ) (ds : List ℤ) (path : List ℕ) (draws : List (List ℤ)) (s : programs.State) (run : List programs.State) : Type 0 where
  pub next : programs.State
  pub later : List programs.State
  pub parts : run ≡ next ∷ later
  pub takes : Takes about k ds s next
  pub along : IsAlong about path draws next later

abbrev FrontOf : CaseSystem → List ℕ → List (Vec ℤ) → ℕ → Vec ℤ → programs.State → List programs.State → Type 0
FrontOf about path draws k v s run = Front about k v.items (rest_of path) (lists_of (rest_of draws)) s run

pub front : (about : CaseSystem) (path : List ℕ) (draws : List (Vec ℤ)) (k : ℕ) (v : Vec ℤ) (s : programs.State) (run : List programs.State) → 1 ≤ length path → 1 ≤ length draws → k ≡ get_or path 0 0 → v ≡ get_or draws 0 v → IsAlong about path (lists_of draws) s run → FrontOf about path draws k v s run
front about [] draws k v s run l m e f h = absurd (omega (arith, l))
front about (i ∷ path) [] k v s run l m e f h = absurd (omega (arith, m))
front about (i ∷ path) (w ∷ draws) k v s [] l m e f h = absurd h
front about (i ∷ path) (w ∷ draws) k v s (t ∷ run) l m e f h = record {
  next = t;
  later = run;
  parts = refl;
  takes = subst (λ j. Takes about j v.items s t) (sym e) (subst (λ (u : Vec ℤ). Takes about i u.items s t) (sym f) h.0);
  along = subst (λ p. IsAlong about p (lists_of (rest_of (w ∷ draws))) t run) (sym (rest_is i path)) (subst (λ (ds : List (Vec ℤ)). IsAlong about path (lists_of ds) t run) (sym (rest_is w draws)) h.1);
}

-- the draws of the first step, and of those after it
pub narrow_front : (draws : List (Vec ℤ)) (v : Vec ℤ) → 1 ≤ length draws → v ≡ get_or draws 0 v → All (All (IsWithin 62)) (lists_of draws) → All (IsWithin 62) v.items
narrow_front [] v l f h = absurd (omega (arith, l))
narrow_front (w ∷ draws) v l f h = subst (λ (u : Vec ℤ). All (IsWithin 62) u.items) (sym f) (All-head (All (IsWithin 62)) w.items (lists_of draws) h)

pub narrow_rest : (draws : List (Vec ℤ)) → 1 ≤ length draws → All (All (IsWithin 62)) (lists_of draws) → All (All (IsWithin 62)) (lists_of (rest_of draws))
narrow_rest [] l h = absurd (omega (arith, l))
narrow_rest (w ∷ draws) l h = subst (λ (ds : List (Vec ℤ)). All (All (IsWithin 62)) (lists_of ds)) (sym (rest_is w draws)) (All-tail (All (IsWithin 62)) w.items (lists_of draws) h)

-- ---- values that are too wide
wide_first : (t : programs.State) (later : List programs.State) (fault : PointFault) → IsWideValue t.values fault → IsWideRun (t ∷ later) fault
wide_first t later (Wide column) h = record { before = []; state = t; after = later; parts = refl; narrow = λ k d j. absurd (omega (arith, j)); wide = h }
wide_first t later Memory h = tt {0}

wide_later : (t : programs.State) (later : List programs.State) (fault : PointFault) → All (IsWithin 62) t.values → IsWideRun later fault → IsWideRun (t ∷ later) fault
wide_later t later (Wide column) narrow h = record {
  before = t ∷ h.before;
  state = h.state;
  after = h.after;
  parts = ap (λ r. t ∷ r) h.parts;
  narrow = All-cons (λ (s : programs.State). All (IsWithin 62) s.values) t h.before narrow h.narrow;
  wide = h.wide;
}
wide_later t later Memory narrow h = tt {0}

module _ (about : CaseSystem) (path : List ℕ) (draws : List (Vec ℤ)) (k : ℕ) (v : Vec ℤ) (s : programs.State) (run : List programs.State) (f : FrontOf about path draws k v s run) where
  pub front_wide : (fault : PointFault) → ((t : programs.State) → Takes about k v.items s t → IsWideValue t.values fault) → IsWideRun run fault
  front_wide fault h = subst (λ r. IsWideRun r fault) (sym f.parts) (wide_first f.next f.later fault (h f.next f.takes))

  pub further : (next : State) → IsNext about f.next next → IsAlong about (rest_of path) (lists_of (rest_of draws)) (seen next) f.later
  further next h = subst (λ t. IsAlong about (rest_of path) (lists_of (rest_of draws)) t f.later) (sym h.same) f.along

  pub can_run : (next : State) → IsNext about f.next next → CanRun about (rest_of path) (lists_of (rest_of draws)) (seen next)
  can_run next h = (f.later, further next h)

-- a state more
one_more : (about : CaseSystem) (state next : State) (run later : List programs.State) (t : programs.State) (old pushed new : List State) → run ≡ t ∷ later → IsState about state → seen next ≡ t → pushed ≡ old ++ state ∷ [] → ArePushed about (seen next ∷ later) pushed new → ArePushed about (seen state ∷ run) old new
one_more about state next run later t old pushed new parts here same put h = record {
  more = state ∷ h.more;
  parts = h.parts ∙ ap (λ xs. xs ++ h.more) put ∙ append_assoc old (state ∷ []) h.more;
  same = ap (λ xs. seen state ∷ xs) (h.same ∙ ap (λ u. u ∷ later) same ∙ sym parts);
  each = All-cons (IsState about) state h.more here h.each;
}

pub states_more : {A : Type 0} (about : CaseSystem) (path : List ℕ) (draws : List (Vec ℤ)) (k : ℕ) (v : Vec ℤ) (state next : State) (old pushed new : List State) (result : Result A PointFault) →
    1 ≤ length path → 1 ≤ length draws → k ≡ get_or path 0 0 → v ≡ get_or draws 0 v → IsState about state →
    ((t : programs.State) → Takes about k v.items (seen state) t → IsNext about t next) → pushed ≡ old ++ state ∷ [] →
    ((run : List programs.State) → IsAlong about (rest_of path) (lists_of (rest_of draws)) (seen next) run → MatchResult result (λ _. ArePushed about (seen next ∷ run) pushed new) (IsWideRun run)) →
    (run : List programs.State) → IsAlong about path (lists_of draws) (seen state) run → MatchResult result (λ _. ArePushed about (seen state ∷ run) old new) (IsWideRun run)
states_more about path draws k v state next old pushed new result l m e f here is put behind run h =
    let a = front about path draws k v (seen state) run l m e f h in
    let n = is a.next a.takes in
    MatchResult-weaker result (behind a.later (further about path draws k v (seen state) run a next n))
    (λ _ p. one_more about state next run a.later a.next old pushed new a.parts here n.same put p)
    (λ fault w. subst (λ r. IsWideRun r fault) (sym a.parts) (wide_later a.next a.later fault (subst (λ (t : programs.State). All (IsWithin 62) t.values) n.same n.state.point.narrow) w))

-- Passes over all cases.
use Rattle.std.proofs.Common.{◌≡◌, ◌⊎◌, inl, inr, ℕ, zero, suc, ◌+◌, ◌<◌, ◌≤◌, List, [], ◌∷◌, length, set, replicate, get_or, All, Bool, true, false, MatchBool, ℤ, Some, arith, refl, sym, ap, ◌∙◌, subst}
use Rattle.std.specs.List.{Contains, slice_get}
use Rattle.std.proofs.lemmas.Option.{slice_get-get_or}
use Rattle.std.proofs.lemmas.List.Elements.{All-contains}
use Rattle.tv_linear.specs.Linear.{columns, IsMet}
use Rattle.tv_cases.specs.LinearCases.{LinearCase, CaseSystem}
use Rattle.tv_cases.specs.declared.case.Case.{Case}
use Rattle.tv_cases.specs.Views.{case_view, case_views}
use Rattle.tv_farkas.specs.declared.fault.CoverFault.{CoverFault}
use Rattle.tv_farkas.specs.declared.fault.CoverFault.TheVariants.{Memory}
use Rattle.tv_candidates.specs.declared.candidate.Candidate.{Candidate}
use Rattle.tv_candidates.specs.Inductive.{MeetsAll, IsInductive, IsPart, IsLargestInductive}
use Rattle.tv_invariant.specs.Sieves.{Sieved, none, stay}
use Rattle.tv_invariant.specs.Falling.{IsLeft, KeptBy, IsFallen, Begins, IsInNoPart, IsStepRefusal, IsRefusal}
use Rattle.tv_invariant.specs.Passes.{AreOver, IsClosed, ClosedKeep, IsPassed, IsTried}
use Rattle.tv_invariant.specs.Reached.{IsInNone}
use Rattle.tv_invariant.specs.Reopened.{IsReopened}
use Rattle.tv_program.specs.Steps.{State}
use Rattle.tv_invariant.proofs.ListLemmas.{all_by}
use Rattle.tv_invariant.proofs.SieveLemmas.{sieved_part, sieved_stay, sieved_fall, sieved_length, sieved_same, sieved_again}
use Rattle.tv_propose.proofs.TableLemmas.{length-views}
use Rattle.tv_linear.proofs.ListLaws.{contains_at, last_or_below}
use Rattle.tv_cases.proofs.LeavingLemmas.{case_at as case_there}

left_all : (about : CaseSystem) (now : List Candidate) → IsLeft about now now
left_all about now = every (IsInNoPart about now) now
  where
    every : (falls : Candidate → Type 0) (cs : List Candidate) → Sieved (λ c. Unit {0}) falls cs cs
    every falls [] = none
    every falls (c ∷ cs) = stay c cs cs tt (every falls cs)

left_greatest : (about : CaseSystem) (list now other : List Candidate) → IsLeft about list now → IsPart other list → IsInductive about other → IsPart other now
left_greatest about list now other h part inductive c a =
    elim (sieved_fall (λ c. Unit {0}) (IsInNoPart about list) list now h c (part c a)) [ inl k ↦ k | inr f ↦ absurd (f other part inductive a) ]

pub over_part : (n : ℕ) (old new : List Candidate) → AreOver n old → IsPart new old → AreOver n new
over_part n old new h part = all_by (λ c. columns c.row ≡ n) new (λ c a. All-contains (λ d. columns d.row ≡ n) old c h (part c a))

pub left_part : (about : CaseSystem) (list now : List Candidate) → IsLeft about list now → IsPart now list
left_part about list now h = sieved_part (λ c. Unit {0}) (IsInNoPart about list) list now h

fallen_out : (about : CaseSystem) (case : LinearCase) (list now : List Candidate) (c : Candidate) → Contains about.cases case → IsLeft about list now → IsFallen about.variables case now c → IsInNoPart about list c
fallen_out about case list now c among left f other part inductive a =
    f.unmet (inductive.kept f.old f.new f.wide record { taken = case; among = among; draws = f.draws; does = f.does } (λ d b at. f.meets d (left_greatest about list now other left part inductive d b) at) c a f.place)

-- a case from elsewhere keeps what it kept, where candidates fell at a location
module _ (n : ℕ) (case other : LinearCase) (old new : List Candidate) (sieved : Sieved (KeptBy n case old) (IsFallen n case old) old new) (elsewhere : other.from ≡ case.to → ⊥) where
  meets_old : (s : State) → s.location ≡ other.from → MeetsAll new s → MeetsAll old s
  meets_old s at met c among is = elim (sieved_fall (KeptBy n case old) (IsFallen n case old) old new sieved c among) [
    | inl k ↦ met c k is
    | inr f ↦ absurd (elsewhere (sym at ∙ is ∙ sym f.place ∙ f.does.enters))
  ]

  keeps_on : (c : Candidate) → KeptBy n other old c → KeptBy n other new c
  keeps_on c h s t draws size does met at = h s t draws size does (meets_old s does.leaves met) at

closed_set : (marks : List Bool) (number k : ℕ) → IsClosed (set marks number false) k → IsClosed marks k ⊎ (k ≡ number)
closed_set [] number k h = inl h
closed_set (b ∷ marks) zero zero h = inr refl
closed_set (b ∷ marks) zero (suc k) h = inl h
closed_set (b ∷ marks) (suc number) zero h = inl h
closed_set (b ∷ marks) (suc number) (suc k) h = elim (closed_set marks number k h) [ inl e ↦ inl e | inr e ↦ inr (ap suc e) ]

set_closed : (marks : List Bool) (number k : ℕ) → number < length marks → IsClosed marks k ⊎ (k ≡ number) → IsClosed (set marks number false) k
set_closed [] number k l h = absurd (omega (arith, l))
set_closed (b ∷ marks) zero zero l h = refl
set_closed (b ∷ marks) zero (suc k) l h = elim h [ inl e ↦ e | inr e ↦ absurd (omega (arith, e)) ]
set_closed (b ∷ marks) (suc number) zero l h = elim h [ inl e ↦ e | inr e ↦ absurd (omega (arith, e)) ]
set_closed (b ∷ marks) (suc number) (suc k) l h = set_closed marks number k (omega (arith, l)) (elim h [ inl e ↦ inl e | inr e ↦ inr (let g : k ≡ number = omega (arith, e) in g) ])

same_case : (cases : List LinearCase) (k : ℕ) (a b : LinearCase) → slice_get cases k ≡ Some a → slice_get cases k ≡ Some b → a ≡ b
same_case cases k a b e f = let g : Some a ≡ Some b = sym e ∙ f in cc

module _ (about : CaseSystem) (number : ℕ) (case : LinearCase) (there : slice_get about.cases number ≡ Some case) (among : Contains about.cases case) (old new : List Candidate) (sieved : Sieved (KeptBy about.variables case old) (IsFallen about.variables case old) old new) (before : List Bool) (inside : number < length before) where
  abbrev pub stays : Candidate → Type 0
  stays = KeptBy about.variables case old

  abbrev pub falls : Candidate → Type 0
  falls = IsFallen about.variables case old

  kept_each : (c : Candidate) → Contains new c → stays c
  kept_each c a = All-contains stays new c (sieved_stay stays falls old new sieved) a

  tried_left : (list : List Candidate) → IsLeft about list old → IsLeft about list new
  tried_left list left = sieved_again stays falls (IsInNoPart about list) (λ c f. fallen_out about case list old c among left f) list old new left sieved

  tried_shorter : length new ≤ length old
  tried_shorter = sieved_length stays falls old new sieved

  -- none fell
  pub none_fell : length old ≤ length new → IsTried about number old new before (set before number false)
  none_fell l =
      let is = sieved_same stays falls old new sieved l in
      record {
        left = tried_left;
        shorter = tried_shorter;
        closed = λ h k other at shut c a. elim (closed_set before number k shut) [
          | inl e ↦ subst (λ cs. KeptBy about.variables other cs c) (sym is) (h k other at e c (subst (λ cs. Contains cs c) is a))
          | inr e ↦ subst (λ cs. KeptBy about.variables other cs c) (sym is) (subst (λ d. KeptBy about.variables d old c) (same_case about.cases number case other there (subst (λ j. slice_get about.cases j ≡ Some other) e at)) (kept_each c a))
        ];
        settled = λ m. (is, λ k h. set_closed before number k inside h);
      }

  -- some fell, so that the cases from there are open
  pub some_fell : length new < length old → (after : List Bool) → ((k : ℕ) (other : LinearCase) → slice_get about.cases k ≡ Some other → IsClosed after k → IsClosed (set before number false) k × (other.from ≡ case.to → ⊥)) → IsTried about number old new before after
  some_fell l after opened = record {
    left = tried_left;
    shorter = tried_shorter;
    closed = λ h k other at shut c a.
        let o = opened k other at shut in
        keeps_on about.variables case other old new sieved o.1 c (elim (closed_set before number k o.0) [
          | inl e ↦ h k other at e c (sieved_part stays falls old new sieved c a)
          | inr e ↦ subst (λ d. KeptBy about.variables d old c) (same_case about.cases number case other there (subst (λ j. slice_get about.cases j ≡ Some other) e at)) (kept_each c a)
        ]);
    settled = λ m. absurd (omega (arith, l, m));
  }

-- ---- passes

pub passed_closed : (about : CaseSystem) (count : ℕ) (old new : List Candidate) (before after : List Bool) → IsPassed about count old new before after → IsClosed after count → IsPassed about (count + 1) old new before after
passed_closed about count old new before after h shut = record {
  left = h.left;
  shorter = h.shorter;
  closed = h.closed;
  settled = λ l. let s = h.settled l in (s.0, λ k m. elim (last_or_below count k m) [ inl e ↦ subst (IsClosed after) (sym e) shut | inr n ↦ s.1 k n ]);
}

pub passed_tried : (about : CaseSystem) (count : ℕ) (old mid new : List Candidate) (before between after : List Bool) → IsPassed about count old mid before between → IsTried about count mid new between after → IsPassed about (count + 1) old new before after
passed_tried about count old mid new before between after h t =
    let m = h.shorter in
    let n = t.shorter in
    record {
      left = λ list left. t.left list (h.left list left);
      shorter = omega (arith, m, n);
      closed = λ k. t.closed (h.closed k);
      settled = λ l.
          let s = h.settled (omega (arith, l, n)) in
          let u = t.settled (omega (arith, l, m)) in
          (u.0 ∙ s.0, λ k w. u.1 k (elim (last_or_below count k w) [ inl e ↦ inr e | inr i ↦ inl (s.1 k i) ]));
    }

pub passed_part : (about : CaseSystem) (count : ℕ) (old new : List Candidate) (before after : List Bool) → IsPassed about count old new before after → IsPart new old
passed_part about count old new before after h = left_part about old new (h.left old (left_all about old))

-- ---- cases by number

view_from : (cs : List Case) (k : ℕ) (other : LinearCase) → slice_get (case_views cs) k ≡ Some other → (x : Case) × (x ≡ get_or cs k x) × (case_view x ≡ other)
view_from [] k other e = absurd cc
view_from (c ∷ cs) zero other e = (c, refl, (let s : case_view c ≡ other = cc in s))
view_from (c ∷ cs) (suc k) other e = let r = view_from cs k other e in (r.0, r.1, r.2)

module _ (about : CaseSystem) (cs : List Case) (is : case_views cs ≡ about.cases) where
  pub as_many : length about.cases ≡ length cs
  as_many = sym (ap length is) ∙ length-views cs

  -- what is closed after cases from a location were opened
  pub reopened : (location : ℕ) (before after : List Bool) → IsReopened cs location before after → (k : ℕ) (other : LinearCase) → slice_get about.cases k ≡ Some other → IsClosed after k → IsClosed before k × (other.from ≡ location → ⊥)
  reopened location before after h k other e shut =
      let r = view_from cs k other (subst (λ ds. slice_get ds k ≡ Some other) (sym is) e) in
      let o = h k shut in
      (o.0, λ at. o.1 r.0 (sym (ap (λ y. y.from) r.1) ∙ ap (λ d. d.from) r.2 ∙ at))

  module _ (k : ℕ) (x : Case) (l : k < length cs) (here : x ≡ get_or cs k x) where
    pub case_at : slice_get about.cases k ≡ Some (case_view x)
    case_at = subst (λ ds. slice_get ds k ≡ Some (case_view x)) is (case_there cs k x l here)

    pub among_cases : Contains about.cases (case_view x)
    among_cases = contains_at about.cases k (case_view x) case_at

-- all cases are open at first
pub all_open : (about : CaseSystem) (now : List Candidate) (n : ℕ) → ClosedKeep about now (replicate n true)
all_open about now n k case at shut = absurd (never n k shut) where
  never : (m j : ℕ) → IsClosed (replicate m true) j → ⊥
  never zero j e = cc
  never (suc m) zero e = cc
  never (suc m) (suc j) e = never m j e

pub begins_left : (about : CaseSystem) (old new : List Candidate) → Sieved (Begins about) (IsInNoPart about old) old new → IsLeft about old new × All (Begins about) new
begins_left about old new s = (
  sieved_again (Begins about) (IsInNoPart about old) (IsInNoPart about old) (λ c f. f) old old new (left_all about old) s,
  sieved_stay (Begins about) (IsInNoPart about old) old new s,
)

pub begins_part : (about : CaseSystem) (old new : List Candidate) → All (Begins about) old → IsPart new old → All (Begins about) new
begins_part about old new h part = all_by (Begins about) new (λ c a. All-contains (Begins about) old c h (part c a))

-- what is left once those in no inductive list are taken out
pub met_left : (about : CaseSystem) (list old new : List Candidate) → IsLeft about list old → All (Begins about) old → Sieved (λ c. Unit {0}) (IsInNone about) old new → IsLeft about list new × All (Begins about) new
met_left about list old new left begins s = (
  sieved_again (λ c. Unit {0}) (IsInNone about) (IsInNoPart about list) (λ c out other part inductive a. out other inductive a) list old new left s,
  begins_part about old new begins (sieved_part (λ c. Unit {0}) (IsInNone about) old new s),
)

pub largest : (about : CaseSystem) (list now new : List Candidate) (before after : List Bool) → IsLeft about list now → All (Begins about) now → ClosedKeep about now before → IsPassed about (length about.cases) now new before after → length now ≤ length new → IsLargestInductive about list new
largest about list now new before after left begins keep passed long =
    let is = passed.settled long in
    let kept = subst (λ cs. ClosedKeep about cs after) is.0 (passed.closed keep) in
    subst (IsLargestInductive about list) (sym is.0) record {
      within = left_part about list now left;
      inductive = record {
        begins = λ s at wide c a e. All-contains (Begins about) now c begins a (sym e ∙ at) s.values wide;
        kept = λ s t wide step met c a e.
            let k = step.among in
            kept k.0 step.taken (slice_get-get_or about.cases k.0 step.taken k.1 ∙ ap Some k.2) (is.1 k.0 k.1) c a s t step.draws wide step.does met e;
      };
      greatest = λ other part inductive. left_greatest about list now other left part inductive;
    }

pub step_refused : (about : CaseSystem) (list mid : List Candidate) (case : LinearCase) (n pivots splits : ℕ) (fault : CoverFault) → n ≡ about.variables → Contains about.cases case → IsLeft about list mid → (fault ≡ Memory) ⊎ ((c : Candidate) × Contains mid c × IsStepRefusal n case mid pivots splits c fault) → IsRefusal about list pivots splits fault
step_refused about list mid case n pivots splits fault e among left h = elim h [
  | inl m ↦ inl m
  | inr r ↦ inr record {
    case = case;
    now = mid;
    candidate = r.0;
    of_program = among;
    left = left;
    among = r.1;
    step = subst (λ k. IsStepRefusal k case mid pivots splits r.0 fault) e r.2;
  }
]

-- ---- at the start

pub outside_begins : (about : CaseSystem) (c : Candidate) (start : ℕ) → start ≡ about.start → (c.location ≡ start → ⊥) → Begins about c
outside_begins about c start same out at = absurd (out (at ∙ sym same))

pub met_begins : (about : CaseSystem) (c : Candidate) (b : Bool) → b ≡ true → MatchBool b ((xs : List ℤ) → IsMet xs c.row) ((xs : List ℤ) × (length xs ≡ columns c.row) × (IsMet xs c.row → ⊥)) → Begins about c
met_begins about c true e h at xs l = h xs
met_begins about c false e h at xs l = absurd cc

pub unmet_falls : (about : CaseSystem) (list : List Candidate) (c : Candidate) → AreOver about.variables list → c.location ≡ about.start → (xs : List ℤ) × (length xs ≡ columns c.row) × (IsMet xs c.row → ⊥) → IsInNoPart about list c
unmet_falls about list c over at w other part inductive a =
    let wide : columns c.row ≡ about.variables = All-contains (λ d. columns d.row ≡ about.variables) list c over (part c a) in
    w.2 (inductive.begins record { location = about.start; values = w.0 } refl (w.1 ∙ wide) c a (sym at))

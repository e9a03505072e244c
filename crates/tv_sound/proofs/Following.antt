-- Following the choices of a node that shows an endless run.
use Rattle.std.proofs.Common.{◌≡◌, ℕ, zero, suc, List, [], ◌∷◌, ◌++◌, length, All, map, Option, None, Some, Vec, Bool, true, false, IsTrue, arith, cond, refl, subst, sym, ap, ◌∙◌, ℤ, pos, ◌≤ℤ◌, ◌-ℤ◌, slice_get, ◌==◌}
use Rattle.std.specs.Prelude.{Contains, if◌then◌else◌}
use Rattle.std.specs.Global.{Global}
use Rattle.std.specs.List.{filter, flat_map}
use Rattle.std.specs.Option.{option_map}
use Rattle.std.specs.Int.RustNames.{int_le}
use Rattle.std.proofs.lemmas.Int.{ints}
use Rattle.std.proofs.lemmas.Option.{slice_get-map}
use Rattle.std.proofs.lemmas.List.Elements.{All-push}
use Rattle.tv_linear.specs.declared.choice.ChoiceTree.{ChoiceTree, Split', Empty, NoStep, Take}
use Rattle.tv_linear.specs.Linear.{Linear, value, IsMet}
use Rattle.tv_linear.specs.Known.{Known, given, denied, term_value, IsKnownMet, as_given}
use Rattle.tv_linear.specs.Terms.{terms_after, draw_terms}
use Rattle.tv_linear.proofs.KnownLemmas.{refuted, value-denied, value-given, met-as_given}
use Rattle.tv_program.specs.Steps.{State}
use Rattle.tv_program.specs.Systems.{System}
use Rattle.tv_program.specs.Runs.{IsRun, last_of, follow}
use Rattle.tv_cases.specs.LinearCases.{LinearCase, CaseSystem, CaseSteps}
use Rattle.tv_cert.specs.declared.node.Marked.{Marked}
use Rattle.tv_cert.specs.declared.node.Node.{Node}
use Rattle.tv_cert.specs.declared.node.Proof.{Proof}
use Rattle.tv_cert.specs.declared.node.Proof.TheVariants.{Covered, Chosen}
use Rattle.tv_cert.specs.Pieces.{place_of, rows_of, InMarked, pieces_at}
use Rattle.tv_cert.specs.Targets.{target_rows, no_fall}
use Rattle.tv_cert.specs.Choices.{drawn_change, TakeMet, IsMetChoice}
use Rattle.tv_cert.specs.Obligations.{About, Obligation, AllMet, OwedMet, choice_of, choice_into, paired}
use Rattle.tv_cert.specs.declared.node.Kind.TheVariants as kind
use Rattle.tv_cert.proofs.PieceLemmas.{piece_got}
use Rattle.tv_cases.proofs.ContainsLemmas.{Contains-later}
use Rattle.tv_sound.specs.Following.{Spot, offered, all_offered, offered_at, Follows, chosen_at, TakesAt, after_case, entering, taking, going, onward, followed}
use Rattle.tv_sound.proofs.Entering.{Entered, joined_is, seen, met-after, wide_after}
use Rattle.tv_sound.proofs.Choosing.{Taken, TakenInto, taken_into, Stepped, taken_step, stepped_in, drawn, point_is}
use Rattle.tv_linear.proofs.ListLaws.{all_back, all_front, contains_at}
use Rattle.tv_cases.proofs.SameSteps.{at_most-true}
use Rattle.tv_cases.proofs.OptionLemmas.{some_same}

pub never : IsTrue false → ⊥
never h = cc

run_pushed : {S : Type 0} (step : S → S → Type 0) (s : S) (ts : List S) (t : S) → IsRun step s ts → step (last_of s ts) t → IsRun step s (ts ++ t ∷ [])
run_pushed step s [] t h k = (k, tt)
run_pushed step s (u ∷ ts) t h k = (h.0, run_pushed step u ts t h.1 k)

last_pushed : {S : Type 0} (s : S) (ts : List S) (t : S) → last_of s (ts ++ t ∷ []) ≡ t
last_pushed s [] t = refl
last_pushed s (u ∷ ts) t = last_pushed u ts t

-- ---- where a choice ends

abbrev IsEnd : ChoiceTree → Type 0
IsEnd (Split' r p a q b) = ⊥
IsEnd (Empty ms) = Unit {0}
IsEnd (NoStep covers) = Unit {0}
IsEnd (Take k target j draws lists) = Unit {0}

-- a choice that is no split, met at known rows that are met
record Led (n : ℕ) (cases : List LinearCase) (l : ℕ) (owed : LinearCase → List Linear → ℕ → ℕ → Option (List Known)) (xs : List ℤ) (leaf : ChoiceTree) : Type 0 where
  pub known : List Known
  pub all : All (IsKnownMet xs) known
  pub met : IsMetChoice n cases l false owed known leaf
  pub end : IsEnd leaf

above : (z : ℤ) → int_le z (pos 0) ≡ false → (pos 1 -ℤ z) ≤ℤ pos 0
above z h = grind (arith, ints)

by_truth : (P : Bool → Type 0) (t : Bool) → (t ≡ true → P true) → (t ≡ false → P false) → P t
by_truth P true yes_then no_then = yes_then refl
by_truth P false yes_then no_then = no_then refl

holds_there : (xs : List ℤ) (known : List Known) (r : Linear) → All (IsKnownMet xs) known → int_le (value r xs) (pos 0) ≡ true → All (IsKnownMet xs) (known ++ given r ∷ [])
holds_there xs known r k e = All-push (IsKnownMet xs) known (given r) k (subst (λ z. z ≤ℤ pos 0) (sym (value-given xs r)) (at_most-true (value r xs) e))

fails_there : (xs : List ℤ) (known : List Known) (r : Linear) → All (IsKnownMet xs) known → int_le (value r xs) (pos 0) ≡ false → All (IsKnownMet xs) (known ++ denied (given r) ∷ [])
fails_there xs known r k e = All-push (IsKnownMet xs) known (denied (given r)) k (subst (λ z. z ≤ℤ pos 0) (sym (value-denied xs (given r) ∙ ap (λ z. pos 1 -ℤ z) (value-given xs r))) (above (value r xs) e))

module _ (n : ℕ) (cases : List LinearCase) (l : ℕ) (owed : LinearCase → List Linear → ℕ → ℕ → Option (List Known)) (xs : List ℤ) where
  led : (known : List Known) (tree : ChoiceTree) → IsMetChoice n cases l false owed known tree → All (IsKnownMet xs) known → Led n cases l owed xs (chosen_at xs tree)
  led known (Split' r p a q b) h k =
      by_truth (λ t. Led n cases l owed xs (if t then chosen_at xs a else chosen_at xs b)) (int_le (value r xs) (pos 0))
      (λ e. led (known ++ given r ∷ []) a h.0 (holds_there xs known r k e))
      (λ e. led (known ++ denied (given r) ∷ []) b h.1 (fails_there xs known r k e))
  led known (Empty ms) h k = record { known = known; all = k; met = h; end = tt }
  led known (NoStep covers) h k = record { known = known; all = k; met = h; end = tt }
  led known (Take i target j draws lists) h k = record { known = known; all = k; met = h; end = tt }

-- ---- the pieces and what is offered at them

kept_among : {X : Type 0} (b : Bool) (a x : X) (xs ys : List X) → (Contains ys x → Contains xs x) → Contains (cond b (a ∷ ys) ys) x → Contains (a ∷ xs) x
kept_among true a x xs ys h (zero, l, e) = (zero, omega arith, e)
kept_among true a x xs ys h (suc k, l, e) = Contains-later a x xs (h (k, omega arith, e))
kept_among false a x xs ys h c = Contains-later a x xs (h c)

pub among-filter : {X : Type 0} (test : X → Bool) (xs : List X) (x : X) → Contains (filter test xs) x → Contains xs x
among-filter test [] x c = c
among-filter test (a ∷ xs) x c = kept_among (test a) a x xs (filter test xs) (among-filter test xs x) c

kept_firsts : {A B : Type 0} (b : Bool) (a : A × B) (xs : List (A × B)) → map (λ o. o.0) (cond b (a ∷ xs) xs) ≡ cond b (a.0 ∷ map (λ o. o.0) xs) (map (λ o. o.0) xs)
kept_firsts true a xs = refl
kept_firsts false a xs = refl

filter-firsts : {A B : Type 0} (test : A → Bool) (xs : List (A × B)) → map (λ o. o.0) (filter (λ o. test o.0) xs) ≡ filter test (map (λ o. o.0) xs)
filter-firsts test [] = refl
filter-firsts test (a ∷ xs) = kept_firsts (test a.0) a (filter (λ o. test o.0) xs) ∙ ap (λ ys. cond (test a.0) (a.0 ∷ ys) ys) (filter-firsts test xs)

none_is : {X : Type 0} (x : X) → ◌≡◌ {A = Option X} None (Some x) → ⊥
none_is x e = cc

-- a piece that is entered, with what is offered there
offer_got : {A B : Type 0} (os : List (A × B)) (k : ℕ) (a : A) (o : Option (A × B)) → slice_get os k ≡ o → option_map (λ o. o.0) o ≡ Some a → (b : B) × (slice_get os k ≡ Some (a, b))
offer_got os k a None g e = absurd (none_is a e)
offer_got os k a (Some o) g e = (o.1, g ∙ ap (λ x. Some (x, o.1)) (some_same o.0 a e))

pub first_got : {A B : Type 0} (os : List (A × B)) (k : ℕ) (a : A) → slice_get (map (λ o. o.0) os) k ≡ Some a → (b : B) × (slice_get os k ≡ Some (a, b))
first_got os k a e = offer_got os k a (slice_get os k) refl (sym (slice_get-map (λ o. o.0) os k) ∙ e)

module _ (about : About) (ps : List Marked) where
  abbrev into : LinearCase → List Linear → ℕ → ℕ → Option (List Known)
  into = choice_into about ps (λ c draws. no_fall)

  abbrev owes : ℕ → Marked → List Obligation
  owes number p = choice_of number kind.Choice about p false into ∷ []

  offered_met : (number : ℕ) (qs : List Marked) (proofs : List Proof) (o : Marked × Proof) → AllMet (paired (flat_map (owes number) qs) proofs) → Contains (offered qs proofs) o → OwedMet (choice_of number kind.Choice about o.0 false into).owed (Some o.1)
  offered_met number [] proofs o h c = absurd (omega arith)
  offered_met number (q ∷ qs) [] o h c = absurd (omega arith)
  offered_met number (q ∷ qs) (r ∷ proofs) o h (zero, l, e) = subst (λ o. OwedMet (choice_of number kind.Choice about o.0 false into).owed (Some o.1)) e h.0
  offered_met number (q ∷ qs) (r ∷ proofs) o h (suc k, l, e) = offered_met number qs proofs o h.1 (k, omega arith, e)

  all_pieces : (number : ℕ) (qs : List Marked) (proofs : List Proof) → AllMet (paired (flat_map (owes number) qs) proofs) → map (λ o. o.0) (offered qs proofs) ≡ qs
  all_pieces number [] proofs h = refl
  all_pieces number (q ∷ qs) [] h = absurd h.0
  all_pieces number (q ∷ qs) (r ∷ proofs) h = ap (λ xs. q ∷ xs) (all_pieces number qs proofs h.1)

-- ---- one turn

-- a state in a piece at which this proof is offered
pub record Stands (n : ℕ) (all : List (Marked × Proof)) (here : Spot) : Type 0 where
  pub among : Contains all (here.piece, here.proof)
  pub inside : InMarked here.piece here.state
  pub wide : length here.state.values ≡ n

pub record Turns (about : About) (all : List (Marked × Proof)) (here next : Spot) : Type 0 where
  pub stands : Stands about.system.variables all next
  pub step : CaseSteps about.system here.state next.state

drawn_values : (xs : List ℤ) (draws : List Linear) → drawn xs draws ≡ map (λ d. value d xs) draws
drawn_values xs [] = refl
drawn_values xs (d ∷ draws) = (λ i. value-given xs d i ∷ drawn_values xs draws i)

-- the state after a case that is taken
next_is : (n : ℕ) (system : CaseSystem) (s : State) (c : LinearCase) (draws : List Linear) (t : Stepped n system s c draws) → t.next ≡ after_case n c draws s
next_is n system s c draws t = (λ i. record { location = t.at i; values = (t.is ∙ ap (λ ds. map (term_value (s.values ++ ds)) (terms_after n c.updates)) (drawn_values s.values draws)) i })

module _ (about : About) (ps : List Marked) (proofs : List Proof) (number : ℕ) (met : AllMet (paired (flat_map (owes about ps number) ps) proofs)) where
  abbrev n : ℕ
  n = about.system.variables

  abbrev all : List (Marked × Proof)
  all = offered ps proofs

  pub pieces_there : (l : ℕ) → map (λ o. o.0) (offered_at all l) ≡ pieces_at ps l
  pieces_there l = filter-firsts (λ p. place_of p == l) all ∙ ap (λ qs. pieces_at qs l) (all_pieces about ps number ps proofs met)

  module _ (p : Marked) (proof : Proof) (s : State) (wide : length s.values ≡ n) where
    abbrev here : Spot
    here = record { piece = p; proof = proof; state = s }

    -- the piece q is entered over the case
    enters : (c : LinearCase) (k : ℕ) (draws : List Linear) (q : Marked) (rows : List Known) (j : ℕ) → (i : ℕ) → slice_get about.system.cases i ≡ Some c → (t : TakenInto n s.location (into about ps) s.values c draws k) → slice_get (pieces_at ps c.to) k ≡ Some q → Turns about all here (entering (slice_get (offered_at all c.to) k) (after_case n c draws s) here)
    enters c k draws q rows j i g t e =
        let taken : Taken n about.system.cases s.location (into about ps) s.values = record { taken = c; among = contains_at about.system.cases i c g; from = t.from; draws = draws; many = t.many; guards = t.guards; target = k; fall = t.fall; rows = t.rows; owes = t.owes; met = t.met } in
        let stepped = taken_step n about.system (into about ps) s wide taken in
        let o = first_got (offered_at all c.to) k q (ap (λ xs. slice_get xs k) (pieces_there c.to) ∙ e) in
        let owed : target_rows (drawn_change n c draws) no_fall (Some q) t.fall ≡ Some t.rows = subst (λ x. target_rows (drawn_change n c draws) no_fall x t.fall ≡ Some t.rows) e t.owes in
        let w = joined_is (map (drawn_change n c draws) (rows_of q)) (no_fall q t.fall) t.rows owed in
        let got = piece_got ps c.to k q e in
        let shown : All (IsKnownMet s.values) (map (drawn_change n c draws) (rows_of q) ++ w.0) = subst (All (IsKnownMet s.values)) (sym w.2) t.met in
        let entered : Entered s.values ps c.to (drawn_change n c draws) no_fall = record { piece = q; among = got.1; place = got.0; rows = all_front (IsKnownMet s.values) (map (drawn_change n c draws) (rows_of q)) w.0 shown; number = t.fall; falls = w.0; fell = w.1; met = all_back (IsKnownMet s.values) (map (drawn_change n c draws) (rows_of q)) w.0 shown } in
        let same = next_is n about.system s c draws stepped in
        let inside = subst (InMarked q) same (stepped_in n about.system s c draws stepped wide ps no_fall entered) in
        let long = subst (λ x. length x.values ≡ n) same (wide_after n stepped.step.taken stepped.step.draws s stepped.next stepped.step.does wide) in
        let turned : Turns about all here (record { piece = q; proof = o.0; state = after_case n c draws s }) = record { stands = record { among = among-filter (λ o. place_of o.0 == c.to) all (q, o.0) (contains_at (offered_at all c.to) k (q, o.0) o.1); inside = inside; wide = long }; step = subst (CaseSteps about.system s) same stepped.step } in
        subst (λ x. Turns about all here (entering x (after_case n c draws s) here)) (sym o.1) turned

    by_target : (c : LinearCase) (k : ℕ) (draws : List Linear) (i : ℕ) → slice_get about.system.cases i ≡ Some c → (t : TakenInto n s.location (into about ps) s.values c draws k) → (q : Option Marked) → slice_get (pieces_at ps c.to) k ≡ q → Turns about all here (entering (slice_get (offered_at all c.to) k) (after_case n c draws s) here)
    by_target c k draws i g t None e = absurd (none_is t.rows (subst (λ x. target_rows (drawn_change n c draws) no_fall x t.fall ≡ Some t.rows) e t.owes))
    by_target c k draws i g t (Some q) e = enters c k draws q t.rows t.fall i g t e

    by_case : (known : List Known) (i k j : ℕ) (draws : List Linear) (lists : List (List ℤ)) → All (IsKnownMet s.values) known → (c : Option LinearCase) → slice_get about.system.cases i ≡ c → TakeMet n s.location (into about ps) known c k j draws lists → Turns about all here (taking about.system all c k draws here)
    by_case known i k j draws lists a None g h = absurd h
    by_case known i k j draws lists a (Some c) g h =
        by_target c k draws i g (taken_into n s.location (into about ps) known s.values c k j draws lists h wide a) (slice_get (pieces_at ps c.to) k) refl

    by_end : (leaf : ChoiceTree) → Led n about.system.cases s.location (into about ps) s.values leaf → Turns about all here (going about.system all leaf here)
    by_end (Split' r p' a q b) h = absurd h.end
    by_end (Empty ms) h = absurd (refuted n h.known ms.items s.values h.met wide h.all)
    by_end (NoStep covers) h = absurd (never h.met.0)
    by_end (Take i k j draws lists) h = by_case h.known i k j draws.items (map (λ x. x.items) lists.items) h.all (slice_get about.system.cases i) refl h.met

  turns_from : (p : Marked) (proof : Proof) (s : State) → Stands n all (record { piece = p; proof = proof; state = s }) → OwedMet (choice_of number kind.Choice about p false (into about ps)).owed (Some proof) → Turns about all (record { piece = p; proof = proof; state = s }) (onward about.system all (record { piece = p; proof = proof; state = s }))
  turns_from p (Covered tree) s h m = absurd m
  turns_from p (Chosen tree) s h m =
      let known = as_given (rows_of p) in
      let at = led n about.system.cases s.location (into about ps) s.values known tree (subst (λ l. IsMetChoice n about.system.cases l false (into about ps) known tree) (sym h.inside.place) m) (seen p s h.inside) in
      by_end p (Chosen tree) s h.wide (chosen_at s.values tree) at

  -- ---- what is taken

  module _ (p : Marked) (tree : ChoiceTree) (s : State) (wide : length s.values ≡ n) where
    abbrev standing : Spot
    standing = record { piece = p; proof = Chosen tree; state = s }

    abbrev values_drawn : List Linear → List ℤ
    values_drawn draws = map (λ d. value d s.values) draws

    guards_met : (c : LinearCase) (k : ℕ) (draws : List Linear) → TakenInto n s.location (into about ps) s.values c draws k → All (IsMet (s.values ++ values_drawn draws)) c.guards
    guards_met c k draws t =
        let at : map (term_value s.values) (draw_terms n draws) ≡ s.values ++ values_drawn draws = point_is n s.values draws wide ∙ ap (λ ds. s.values ++ ds) (drawn_values s.values draws) in
        (met-as_given (s.values ++ values_drawn draws) c.guards).1
        (subst (λ pt. All (IsKnownMet pt) (as_given c.guards)) at (met-after s.values (draw_terms n draws) c.guards t.guards))

    takes_into : (i k j : ℕ) (draws : Vec Linear Global) (lists : Vec (Vec ℤ Global) Global) → chosen_at s.values tree ≡ Take i k j draws lists → (c : LinearCase) → slice_get about.system.cases i ≡ Some c → (t : TakenInto n s.location (into about ps) s.values c draws.items k) → (q : Option Marked) → slice_get (pieces_at ps c.to) k ≡ q → TakesAt about.system all standing
    takes_into i k j draws lists ends c g t None e = absurd (none_is t.rows (subst (λ x. target_rows (drawn_change n c draws.items) no_fall x t.fall ≡ Some t.rows) e t.owes))
    takes_into i k j draws lists ends c g t (Some q) e =
        let o = first_got (offered_at all c.to) k q (ap (λ xs. slice_get xs k) (pieces_there c.to) ∙ e) in
        record {
          tree = tree;
          chosen = refl;
          number = i;
          target = k;
          fall = j;
          draws = draws;
          lists = lists;
          ends = ends;
          taken = c;
          is = g;
          from = t.from;
          many = t.many;
          wide = wide;
          guards = guards_met c k draws.items t;
          entered = (q, o.0);
          offers = o.1;
        }

    takes_case : (known : List Known) (i k j : ℕ) (draws : Vec Linear Global) (lists : Vec (Vec ℤ Global) Global) → chosen_at s.values tree ≡ Take i k j draws lists → All (IsKnownMet s.values) known → (c : Option LinearCase) → slice_get about.system.cases i ≡ c → TakeMet n s.location (into about ps) known c k j draws.items (map (λ x. x.items) lists.items) → TakesAt about.system all standing
    takes_case known i k j draws lists ends a None g h = absurd h
    takes_case known i k j draws lists ends a (Some c) g h =
        takes_into i k j draws lists ends c g (taken_into n s.location (into about ps) known s.values c k j draws.items (map (λ x. x.items) lists.items) h wide a) (slice_get (pieces_at ps c.to) k) refl

    takes_end : (leaf : ChoiceTree) → chosen_at s.values tree ≡ leaf → Led n about.system.cases s.location (into about ps) s.values leaf → TakesAt about.system all standing
    takes_end (Split' r p' a q b) ends h = absurd h.end
    takes_end (Empty ms) ends h = absurd (refuted n h.known ms.items s.values h.met wide h.all)
    takes_end (NoStep covers) ends h = absurd (never h.met.0)
    takes_end (Take i k j draws lists) ends h = takes_case h.known i k j draws lists ends h.all (slice_get about.system.cases i) refl h.met

  takes_from : (p : Marked) (proof : Proof) (s : State) → Stands n all (record { piece = p; proof = proof; state = s }) → OwedMet (choice_of number kind.Choice about p false (into about ps)).owed (Some proof) → TakesAt about.system all (record { piece = p; proof = proof; state = s })
  takes_from p (Covered tree) s h m = absurd m
  takes_from p (Chosen tree) s h m =
      let known = as_given (rows_of p) in
      let at = led n about.system.cases s.location (into about ps) s.values known tree (subst (λ l. IsMetChoice n about.system.cases l false (into about ps) known tree) (sym h.inside.place) m) (seen p s h.inside) in
      takes_end p tree s h.wide (chosen_at s.values tree) refl at

  pub takes : (here : Spot) → Stands n all here → TakesAt about.system all here
  takes here h = takes_from here.piece here.proof here.state h (offered_met about ps number ps proofs (here.piece, here.proof) met h.among)

  turns : (here : Spot) → Stands n all here → Turns about all here (onward about.system all here)
  turns here h = turns_from here.piece here.proof here.state h (offered_met about ps number ps proofs (here.piece, here.proof) met h.among)

  -- ---- many turns

  pub stands_after : (first : Spot) → Stands n all first → (k : ℕ) → Stands n all (follow (onward about.system all) first k)
  stands_after first h zero = h
  stands_after first h (suc k) = (turns (follow (onward about.system all) first k) (stands_after first h k)).stands

  last_followed : (first : Spot) (k : ℕ) → last_of first.state (followed (onward about.system all) first k) ≡ (follow (onward about.system all) first k).state
  last_followed first zero = refl
  last_followed first (suc k) = last_pushed first.state (followed (onward about.system all) first k) (follow (onward about.system all) first (suc k)).state

  -- a run of any number of steps, over steps that those of the cases are
  pub runs_on : (step : State → State → Type 0) → ((s t : State) → length s.values ≡ n → CaseSteps about.system s t → step s t) → (first : Spot) → Stands n all first → (k : ℕ) → IsRun step first.state (followed (onward about.system all) first k)
  runs_on step steps first h zero = tt
  runs_on step steps first h (suc k) =
      let stands = stands_after first h k in
      let turn = turns (follow (onward about.system all) first k) stands in
      run_pushed step first.state (followed (onward about.system all) first k) (follow (onward about.system all) first (suc k)).state (runs_on step steps first h k)
      (subst (λ x. step x (follow (onward about.system all) first (suc k)).state) (sym (last_followed first k)) (steps (follow (onward about.system all) first k).state (follow (onward about.system all) first (suc k)).state stands.wide turn.step))

-- ---- a whole run

-- what is followed from the values in the piece of the root that is named, and what is taken at each of its spots
pub record TakesAlong (p : System) (system : CaseSystem) (root : Node) (k : ℕ) (values : List ℤ) : Type 0 where
  pub follows : Follows p system root k values
  pub takes : (i : ℕ) → TakesAt system (all_offered root) (follow (onward system (all_offered root)) follows.first i)

-- What a met choice shows of a state: a step is there, or there is none.
use Rattle.std.proofs.Common.{◌≡◌, ℕ, ◌⊎◌, inl, inr, ◌+◌, ◌≤◌, List, [], ◌∷◌, ◌++◌, length, All, map, Option, None, Some, Bool, IsTrue, arith, refl, subst, sym, ap, ◌∙◌, ℤ, pos, ◌≤ℤ◌, slice_get, ◌==◌, length-append}
use Rattle.std.specs.Prelude.{Contains}
use Rattle.std.specs.Option.{option_map}
use Rattle.std.proofs.lemmas.Int.{ints}
use Rattle.std.proofs.lemmas.List.{length-map, map-append}
use Rattle.std.proofs.lemmas.List.Elements.{All-nil, All-cons, All-head, All-tail, All-push, All-append}
use Rattle.std.proofs.lemmas.Bool.{eq-eqb}
use Rattle.tv_linear.specs.declared.cover.CoverTree.{CoverTree}
use Rattle.tv_linear.specs.declared.choice.ChoiceTree.{ChoiceTree, Split', Empty, NoStep, Take}
use Rattle.tv_linear.specs.Linear.{Linear, columns}
use Rattle.tv_linear.specs.Known.{Term, kept, put, Known, given, denied, composed, known_value, term_value, IsKnownMet, as_given}
use Rattle.tv_linear.specs.Terms.{table, terms_after, draw_terms}
use Rattle.tv_linear.specs.Covers.{no_target, IsMetCover}
use Rattle.tv_linear.proofs.Covered.{covered, shown_at_met}
use Rattle.tv_linear.proofs.KnownLemmas.{refuted, met_or_denied, value-composed, value-denied, value-given, met-as_given}
use Rattle.tv_linear.proofs.ListLaws.{table_of, all_back, all_front, map-table, contains_at}
use Rattle.tv_program.specs.Steps.{State}
use Rattle.tv_cases.specs.LinearCases.{LinearCase, CaseSystem, CaseSteps, leaving}
use Rattle.tv_cert.specs.declared.node.Marked.{Marked}
use Rattle.tv_cert.specs.Pieces.{rows_of, InMarked}
use Rattle.tv_cert.specs.Choices.{drawn_change, drawn_guards, TakeMet, NoStepMet, IsMetChoice, ChoiceFits}
use Rattle.tv_sound.proofs.Membership.{zip_some}
use Rattle.tv_sound.proofs.Entering.{Entered, value-longer, met-after, joined_is}
use Rattle.tv_cases.proofs.ContainsLemmas.{Contains-filter}
use Rattle.tv_cases.proofs.OptionLemmas.{none_or_some}

kept_values : (n : ℕ) (xs : List ℤ) → length xs ≡ n → map (term_value xs) (table n (λ j. kept j)) ≡ xs
kept_values n xs e = map-table (term_value xs) n (λ j. kept j) ∙ table_of n xs e

draw_values : (xs : List ℤ) (draws : List Linear) → map (term_value xs) (map (λ d. put d) draws) ≡ map (λ d. known_value xs (given d)) draws
draw_values xs [] = refl
draw_values xs (d ∷ draws) = (λ i. sym (value-given xs d) i ∷ draw_values xs draws i)

-- what a take shows at a point: a case, draws, and rows owed that are met
pub record Taken (n : ℕ) (cases : List LinearCase) (l : ℕ) (owed : LinearCase → List Linear → ℕ → ℕ → Option (List Known)) (xs : List ℤ) : Type 0 where
  pub taken : LinearCase
  pub among : Contains cases taken
  pub from : taken.from ≡ l
  pub draws : List Linear
  pub many : length draws ≡ taken.draws
  pub guards : All (IsKnownMet xs) (drawn_guards n taken draws)
  pub target : ℕ
  pub fall : ℕ
  pub rows : List Known
  pub owes : owed taken draws target fall ≡ Some rows
  pub met : All (IsKnownMet xs) rows

-- what a take of this case, with these terms for its draws, shows of its target
pub record TakenInto (n : ℕ) (l : ℕ) (owed : LinearCase → List Linear → ℕ → ℕ → Option (List Known)) (xs : List ℤ) (c : LinearCase) (draws : List Linear) (target : ℕ) : Type 0 where
  pub from : c.from ≡ l
  pub many : length draws ≡ c.draws
  pub guards : All (IsKnownMet xs) (drawn_guards n c draws)
  pub fall : ℕ
  pub rows : List Known
  pub owes : owed c draws target fall ≡ Some rows
  pub met : All (IsKnownMet xs) rows

pub taken_into : (n : ℕ) (l : ℕ) (owed : LinearCase → List Linear → ℕ → ℕ → Option (List Known)) (known : List Known) (xs : List ℤ) (c : LinearCase) (k j : ℕ) (draws : List Linear) (lists : List (List ℤ)) → TakeMet n l owed known (Some c) k j draws lists → length xs ≡ n → All (IsKnownMet xs) known → TakenInto n l owed xs c draws k
taken_into n l owed known xs c k j draws lists h e a =
    let s = shown_at_met n known (option_map (λ rows. drawn_guards n c draws ++ rows) (owed c draws k j)) lists xs h.2 e a in
    let w = joined_is (drawn_guards n c draws) (owed c draws k j) s.0 s.1 in
    let all = subst (All (IsKnownMet xs)) (sym w.2) s.2 in
    record {
      from = h.0;
      many = h.1;
      guards = all_front (IsKnownMet xs) (drawn_guards n c draws) w.0 all;
      fall = j;
      rows = w.0;
      owes = w.1;
      met = all_back (IsKnownMet xs) (drawn_guards n c draws) w.0 all;
    }

module _ (n : ℕ) (cases : List LinearCase) (l : ℕ) (owed : LinearCase → List Linear → ℕ → ℕ → Option (List Known)) where
  take_some : (known : List Known) (xs : List ℤ) (c : LinearCase) (i k j : ℕ) (draws : List Linear) (lists : List (List ℤ)) → slice_get cases i ≡ Some c → TakeMet n l owed known (Some c) k j draws lists → length xs ≡ n → All (IsKnownMet xs) known → Taken n cases l owed xs
  take_some known xs c i k j draws lists g h e a =
      let t = taken_into n l owed known xs c k j draws lists h e a in
      record { taken = c; among = contains_at cases i c g; from = t.from; draws = draws; many = t.many; guards = t.guards; target = k; fall = t.fall; rows = t.rows; owes = t.owes; met = t.met }

  take_is : (known : List Known) (xs : List ℤ) (i k j : ℕ) (draws : List Linear) (lists : List (List ℤ)) → length xs ≡ n → All (IsKnownMet xs) known → (o : Option LinearCase) → slice_get cases i ≡ o → TakeMet n l owed known o k j draws lists → Taken n cases l owed xs
  take_is known xs i k j draws lists e a None g h = absurd h
  take_is known xs i k j draws lists e a (Some c) g h = take_some known xs c i k j draws lists g h e a

-- no case can be taken
pub record Stopped (n : ℕ) (cases : List LinearCase) (l : ℕ) (xs : List ℤ) : Type 0 where
  pub none : (c : LinearCase) → Contains cases c → c.from ≡ l → (ds : List ℤ) → length ds ≡ c.draws → All (IsKnownMet (xs ++ ds)) (as_given c.guards) → ⊥

nostep_stops : (n : ℕ) (cases : List LinearCase) (l : ℕ) (known : List Known) (covers : List CoverTree) (xs : List ℤ) → NoStepMet n known (leaving l cases) covers → length xs ≡ n → ((ds : List ℤ) → All (IsKnownMet (xs ++ ds)) known) → Stopped n cases l xs
nostep_stops n cases l known covers xs h e stays = record {
  none = λ c among from ds drawn guards. (
      let p = zip_some (λ c cover. IsMetCover (n + c.draws) no_target (known ++ as_given c.guards) cover) (leaving l cases) covers c h (Contains-filter (λ c. c.from == l) cases c (eq-eqb c.from l from) among) in
      let long : length (xs ++ ds) ≡ n + c.draws = (let a = length-append xs ds in omega (arith, a, e, drawn)) in
      let w = covered (n + c.draws) no_target (known ++ as_given c.guards) p.0 (xs ++ ds) p.1 long (All-append (IsKnownMet (xs ++ ds)) known (as_given c.guards) (stays ds) guards) in
      none_or_some w.2 w.3);
}

-- what a row or its denial says of the variables stays with draws after them
stays_given : (xs ds : List ℤ) (r : Linear) → columns r ≤ length xs → IsKnownMet xs (given r) → IsKnownMet (xs ++ ds) (given r)
stays_given xs ds r w h = subst (λ z. z ≤ℤ pos 0) (sym (value-longer xs ds r w)) h

stays_denied : (xs ds : List ℤ) (r : Linear) → columns r ≤ length xs → IsKnownMet xs (denied (given r)) → IsKnownMet (xs ++ ds) (denied (given r))
stays_denied xs ds r w h =
    let a = value-denied xs (given r) in
    let b = value-denied (xs ++ ds) (given r) in
    let c = value-longer xs ds r w in
    omega (arith, ints, a, b, c, h)

module _ (n : ℕ) (cases : List LinearCase) (l : ℕ) (stop : Bool) (owed : LinearCase → List Linear → ℕ → ℕ → Option (List Known)) where
  -- a met choice shows some step, or that there is none
  pub chosen_or_stopped : (known : List Known) (tree : ChoiceTree) (xs : List ℤ) → ChoiceFits n tree → IsMetChoice n cases l stop owed known tree → length xs ≡ n → All (IsKnownMet xs) known → ((ds : List ℤ) → All (IsKnownMet (xs ++ ds)) known) → Taken n cases l owed xs ⊎ (IsTrue stop × Stopped n cases l xs)
  chosen_or_stopped known (Split' r p a q b) xs w h e k stays =
      let narrow : columns r ≤ length xs = omega (arith, w.0, e) in
      elim (met_or_denied xs (given r)) [
        | inl met ↦ chosen_or_stopped (known ++ given r ∷ []) a xs w.1 h.0 e (All-push (IsKnownMet xs) known (given r) k met) (λ ds. All-push (IsKnownMet (xs ++ ds)) known (given r) (stays ds) (stays_given xs ds r narrow met))
        | inr met ↦ chosen_or_stopped (known ++ denied (given r) ∷ []) b xs w.2 h.1 e (All-push (IsKnownMet xs) known (denied (given r)) k met) (λ ds. All-push (IsKnownMet (xs ++ ds)) known (denied (given r)) (stays ds) (stays_denied xs ds r narrow met))
      ]
  chosen_or_stopped known (Empty ms) xs w h e k stays = absurd (refuted n known ms.items xs h e k)
  chosen_or_stopped known (NoStep covers) xs w h e k stays = inr (h.0, nostep_stops n cases l known covers.items xs h.1 e stays)
  chosen_or_stopped known (Take i k' j draws lists) xs w h e k stays = inl (take_is n cases l owed known xs i k' j draws.items (map (λ x. x.items) lists.items) e k (slice_get cases i) refl h)

-- the values of the draws, and the point with them
abbrev pub drawn : List ℤ → List Linear → List ℤ
drawn xs draws = map (λ d. known_value xs (given d)) draws

pub point_is : (n : ℕ) (xs : List ℤ) (draws : List Linear) → length xs ≡ n → map (term_value xs) (draw_terms n draws) ≡ xs ++ drawn xs draws
point_is n xs draws e = map-append (term_value xs) (table n (λ j. kept j)) (map (λ d. put d) draws) ∙ (λ i. kept_values n xs e i ++ draw_values xs draws i)

met-chosen : (pt : List ℤ) (inner outer : List Term) (rows : List Linear) → All (IsKnownMet pt) (map (λ r. composed (composed (given r) inner) outer) rows) → All (IsKnownMet (map (term_value pt) outer)) (map (λ r. composed (given r) inner) rows)
met-chosen pt inner outer [] h = All-nil (IsKnownMet (map (term_value pt) outer))
met-chosen pt inner outer (r ∷ rows) h =
    let change = λ (r : Linear). composed (composed (given r) inner) outer in
    let change' = λ (r : Linear). composed (given r) inner in
    All-cons (IsKnownMet (map (term_value pt) outer)) (change' r) (map change' rows)
    (subst (λ z. z ≤ℤ pos 0) (value-composed pt (composed (given r) inner) outer) (All-head (IsKnownMet pt) (change r) (map change rows) h))
    (met-chosen pt inner outer rows (All-tail (IsKnownMet pt) (change r) (map change rows) h))

-- the step that a take gives
pub record Stepped (n : ℕ) (system : CaseSystem) (s : State) (c : LinearCase) (draws : List Linear) : Type 0 where
  pub next : State
  pub step : CaseSteps system s next
  pub is : next.values ≡ map (term_value (s.values ++ drawn s.values draws)) (terms_after n c.updates)
  pub at : next.location ≡ c.to

pub taken_step : (n : ℕ) (system : CaseSystem) (owed : LinearCase → List Linear → ℕ → ℕ → Option (List Known)) (s : State) → length s.values ≡ n → (h : Taken n system.cases s.location owed s.values) → Stepped n system s h.taken h.draws
taken_step n system owed s e h =
    let c = h.taken in
    let xs = s.values in
    let ds = drawn xs h.draws in
    let at = xs ++ ds in
    let t : State = record { location = c.to; values = map (term_value at) (terms_after n c.updates) } in
    let guards : All (IsKnownMet at) (as_given c.guards) = subst (λ p. All (IsKnownMet p) (as_given c.guards)) (point_is n xs h.draws e) (met-after xs (draw_terms n h.draws) c.guards h.guards) in
    record {
      next = t;
      step = record { taken = c; among = h.among; draws = ds; does = record { leaves = sym h.from; enters = refl; drawn = length-map h.draws (λ d. known_value xs (given d)) ∙ h.many; guards = (met-as_given at c.guards).1 guards; gives = (λ i. map (term_value at) (terms_after (sym e i) c.updates)) } };
      is = refl;
      at = refl;
    }

-- where the rows owed are those of a piece, the next state is in it
pub stepped_in : (n : ℕ) (system : CaseSystem) (s : State) (c : LinearCase) (draws : List Linear) (t : Stepped n system s c draws) → length s.values ≡ n → (ps : List Marked) (fall : Marked → ℕ → Option (List Known)) → (h : Entered s.values ps c.to (drawn_change n c draws) fall) → InMarked h.piece t.next
stepped_in n system s c draws t e ps fall h =
    let rows : All (IsKnownMet (s.values ++ drawn s.values draws)) (map (λ r. composed (given r) (terms_after n c.updates)) (rows_of h.piece)) = subst (λ p. All (IsKnownMet p) (map (λ r. composed (given r) (terms_after n c.updates)) (rows_of h.piece))) (point_is n s.values draws e) (met-chosen s.values (terms_after n c.updates) (draw_terms n draws) (rows_of h.piece) h.rows) in
    record { place = t.at ∙ sym h.place; rows = (met-as_given t.next.values (rows_of h.piece)).1 (subst (λ xs. All (IsKnownMet xs) (as_given (rows_of h.piece))) (sym t.is) (met-after (s.values ++ drawn s.values draws) (terms_after n c.updates) (rows_of h.piece) rows)) }

-- the ranks of a piece after the step, by the rows that the choice owes
pub ranks_chosen : (n : ℕ) (system : CaseSystem) (s : State) (c : LinearCase) (draws : List Linear) (t : Stepped n system s c draws) → length s.values ≡ n → (ranks : List Linear) → map (known_value s.values) (map (drawn_change n c draws) ranks) ≡ map (known_value t.next.values) (as_given ranks)
ranks_chosen n system s c draws t e [] = refl
ranks_chosen n system s c draws t e (r ∷ ranks) =
    let one : known_value s.values (drawn_change n c draws r) ≡ known_value t.next.values (given r) =
    value-composed s.values (composed (given r) (terms_after n c.updates)) (draw_terms n draws) ∙ ap (λ p. known_value p (composed (given r) (terms_after n c.updates))) (point_is n s.values draws e) ∙ value-composed (s.values ++ drawn s.values draws) (given r) (terms_after n c.updates) ∙ ap (λ p. known_value p (given r)) (sym t.is) in
    (λ i. one i ∷ ranks_chosen n system s c draws t e ranks i)

-- What the pieces of a node show, shape by shape.
use Rattle.std.proofs.Common.{◌≡◌, ℕ, ◌⊎◌, inl, inr, List, [], ◌++◌, ◌≤◌, All, length, map, Bool, true, false, IsTrue, refl, subst, sym, ◌∙◌, ℤ, Option, slice_get}
use Rattle.std.specs.Prelude.{Contains}
use Rattle.std.proofs.lemmas.List.{length-map}
use Rattle.tv_linear.specs.Linear.{Linear, columns}
use Rattle.tv_linear.specs.Known.{Known, given, known_value, IsKnownMet, as_given}
use Rattle.tv_linear.specs.Falls.{Falls}
use Rattle.tv_linear.proofs.FallLemmas.{falls-shown}
use Rattle.tv_linear.proofs.KnownLemmas.{met-as_given}
use Rattle.tv_program.specs.Steps.{State}
use Rattle.tv_program.specs.Runs.{Must, reached, Ends, WeakEvery, UntilAny, WeakAnyFails}
use Rattle.tv_meaning.proofs.RunLemmas.{Must_by_ranks, Ends_by_ranks, Weak_every_by, Weak_any_by, Until_any_by_ranks, Never_ends_by}
use Rattle.tv_cases.specs.LinearCases.{LinearCase, CaseSystem, CaseSteps}
use Rattle.tv_cert.specs.declared.node.Marked.{Marked}
use Rattle.tv_cert.specs.Pieces.{place_of, rows_of, ranks_of, goes, InMarked, pieces_at}
use Rattle.tv_cert.specs.Targets.{no_fall, owed_nothing}
use Rattle.tv_cert.specs.Choices.{drawn_change}
use Rattle.tv_cert.specs.Obligations.{About, case_change, step_fall, choice_into, choice_fall}
use Rattle.tv_cert.specs.Fits.{PieceFits}
use Rattle.tv_sound.proofs.Shown.{AllStepsCovered, HasChoice}
use Rattle.tv_sound.proofs.Entering.{Entered, entered_at, seen, step_entered, inside_after, wide_after, fall_at, falls_moved, ranks_before, ranks_now, by_goes, met-longer}
use Rattle.tv_sound.proofs.Choosing.{Taken, Stopped, chosen_or_stopped, taken_step, stepped_in, ranks_chosen}
use Rattle.tv_sound.proofs.RankLemmas.{falls_end}
use Rattle.tv_sound.proofs.Following.{never}

-- a state in a piece of the list
pub record Placed (n : ℕ) (ps : List Marked) (s : State) : Type 0 where
  pub piece : Marked
  pub among : Contains ps piece
  pub inside : InMarked piece s
  pub wide : length s.values ≡ n

-- the values of the ranks of a piece at a state
abbrev pub ranks_at : Marked → State → List ℤ
ranks_at p s = map (known_value s.values) (as_given (ranks_of p))

-- a state in a piece that goes, and its ranks
pub record Ranked (n : ℕ) (ps : List Marked) (s : State) (old : List ℤ) : Type 0 where
  pub at : Placed n ps s
  pub going : goes at.piece ≡ true
  pub ranks : old ≡ ranks_at at.piece s

-- a state in a piece, whose ranks have fallen if the piece goes
pub record Moved (n : ℕ) (ps : List Marked) (old : List ℤ) (t : State) : Type 0 where
  pub at : Placed n ps t
  pub falls : goes at.piece ≡ true → (new : List ℤ) × Ranked n ps t new × Falls old new

-- a step into a piece
pub record Onward (system : CaseSystem) (P : State → Type 0) (s : State) : Type 0 where
  pub next : State
  pub step : CaseSteps system s next
  pub into : P next

-- the ranks are as many before as after
as_many : (n m : ℕ) (p q : Marked) (change : Linear → Known) → PieceFits n m p → PieceFits n m q → goes p ≡ true → goes q ≡ true → length (map change (ranks_of q)) ≡ length (as_given (ranks_of p))
as_many n m p q change fit fit' go go' = length-map (ranks_of q) change ∙ fit'.many go' ∙ sym (fit.many go) ∙ sym (length-map (ranks_of p) (λ r. given r))

module _ (about : About) (m : ℕ) (ps : List Marked) (fits : (p : Marked) → Contains ps p → PieceFits about.system.variables m p) where
  -- ---- steps by covers

  pub lands : (s : State) (at : Placed about.system.variables ps s) (into : List Marked) → AllStepsCovered about.system.variables about.system.cases at.piece into (λ c. no_fall) → (t : State) → CaseSteps about.system s t → Placed about.system.variables into t
  lands s at into cover t step =
      let n = about.system.variables in
      let c = step.taken in
      let fit = fits at.piece at.among in
      let e = step_entered n at.piece c step.draws s t at.wide at.inside step.does m fit into no_fall (cover c step.among (sym step.does.leaves ∙ at.inside.place)) in
      record { piece = e.piece; among = e.among; inside = inside_after n at.piece c step.draws s t at.wide at.inside step.does m fit into no_fall e; wide = wide_after n c step.draws s t step.does at.wide }

  pub moves : (s : State) (old : List ℤ) (r : Ranked about.system.variables ps s old) → AllStepsCovered about.system.variables about.system.cases r.at.piece ps (step_fall about r.at.piece) → (t : State) → CaseSteps about.system s t → Moved about.system.variables ps old t
  moves s old r cover t step =
      let n = about.system.variables in
      let at = r.at in
      let p = at.piece in
      let fit = fits p at.among in
      let c = step.taken in
      let fall = step_fall about p c in
      let e = step_entered n p c step.draws s t at.wide at.inside step.does m fit ps fall (cover c step.among (sym step.does.leaves ∙ at.inside.place)) in
      let q = e.piece in
      let now : Placed n ps t = record { piece = q; among = e.among; inside = inside_after n p c step.draws s t at.wide at.inside step.does m fit ps fall e; wide = wide_after n c step.draws s t step.does at.wide } in
      record {
        at = now;
        falls = λ go. (
            let f = fall_at (case_change n c) (ranks_of p) q e.number e.falls go e.fell in
            let shown = falls-shown (s.values ++ step.draws) (as_given (ranks_of p)) (map (case_change n c) (ranks_of q)) e.number e.falls (as_many n m p q (case_change n c) fit (fits q e.among) r.going go) f e.met in
            (ranks_at q t, record { at = now; going = go; ranks = refl }, falls_moved _ _ _ _ (ranks_before n p c step.draws s t at.wide at.inside step.does m fit ∙ sym r.ranks) (ranks_now n p c step.draws s t at.wide at.inside step.does m fit q) shown));
      }

  -- ---- steps by choices

  narrow : (s : State) (at : Placed about.system.variables ps s) (ds : List ℤ) → All (IsKnownMet (s.values ++ ds)) (as_given (rows_of at.piece))
  narrow s at ds = met-longer s.values ds (rows_of at.piece) (subst (λ k. All (λ r. columns r ≤ k) (rows_of at.piece)) (sym at.wide) (fits at.piece at.among).rows) (seen at.piece s at.inside)

  takes : (s : State) (at : Placed about.system.variables ps s) (stop : Bool) (owed : LinearCase → List Linear → ℕ → ℕ → Option (List Known)) → HasChoice about.system.variables about.system.cases at.piece stop owed → Taken about.system.variables about.system.cases s.location owed s.values ⊎ (IsTrue stop × Stopped about.system.variables about.system.cases s.location s.values)
  takes s at stop owed h =
      let n = about.system.variables in
      let cases = about.system.cases in
      subst (λ l. Taken n cases l owed s.values ⊎ (IsTrue stop × Stopped n cases l s.values)) (sym at.inside.place)
      (chosen_or_stopped n cases (place_of at.piece) stop owed (as_given (rows_of at.piece)) h.tree s.values h.fits h.met at.wide (seen at.piece s at.inside) (narrow s at))

  -- a case that can't be taken gives no step
  no_step : (s : State) → Stopped about.system.variables about.system.cases s.location s.values → (t : State) → CaseSteps about.system s t → ⊥
  no_step s h t step = h.none step.taken step.among (sym step.does.leaves) step.draws step.does.drawn ((met-as_given (s.values ++ step.draws) step.taken.guards).0 step.does.guards)

  took : (s : State) (into : List Marked) (fall : LinearCase → List Linear → Marked → ℕ → Option (List Known)) (h : Taken about.system.variables about.system.cases s.location (choice_into about into fall) s.values) → Entered s.values into h.taken.to (drawn_change about.system.variables h.taken h.draws) (fall h.taken h.draws)
  took s into fall h = entered_at s.values into h.taken.to (drawn_change about.system.variables h.taken h.draws) (fall h.taken h.draws) h.target h.fall h.rows h.met (slice_get (pieces_at into h.taken.to) h.target) refl h.owes

  taken_lands : (s : State) → length s.values ≡ about.system.variables → (into : List Marked) → Taken about.system.variables about.system.cases s.location (choice_into about into (λ c draws. no_fall)) s.values → Onward about.system (Placed about.system.variables into) s
  taken_lands s wide into h =
      let n = about.system.variables in
      let t = taken_step n about.system (choice_into about into (λ c draws. no_fall)) s wide h in
      let e = took s into (λ c draws. no_fall) h in
      record { next = t.next; step = t.step; into = record { piece = e.piece; among = e.among; inside = stepped_in n about.system s h.taken h.draws t wide into no_fall e; wide = wide_after n t.step.taken t.step.draws s t.next t.step.does wide } }

  taken_moves : (s : State) (old : List ℤ) (r : Ranked about.system.variables ps s old) → Taken about.system.variables about.system.cases s.location (choice_into about ps (choice_fall about r.at.piece)) s.values → Onward about.system (Moved about.system.variables ps old) s
  taken_moves s old r h =
      let n = about.system.variables in
      let at = r.at in
      let p = at.piece in
      let change = drawn_change n h.taken h.draws in
      let t = taken_step n about.system (choice_into about ps (choice_fall about p)) s at.wide h in
      let e = took s ps (choice_fall about p) h in
      let q = e.piece in
      let now : Placed n ps t.next = record { piece = q; among = e.among; inside = stepped_in n about.system s h.taken h.draws t at.wide ps (choice_fall about p h.taken h.draws) e; wide = wide_after n t.step.taken t.step.draws s t.next t.step.does at.wide } in
      record {
        next = t.next;
        step = t.step;
        into = record {
          at = now;
          falls = λ go. (
              let f = fall_at change (ranks_of p) q e.number e.falls go e.fell in
              let shown = falls-shown s.values (as_given (ranks_of p)) (map change (ranks_of q)) e.number e.falls (as_many n m p q change (fits p at.among) (fits q e.among) r.going go) f e.met in
              (ranks_at q t.next, record { at = now; going = go; ranks = refl }, falls_moved _ _ _ _ (sym r.ranks) (ranks_chosen n about.system s h.taken h.draws t at.wide (ranks_of q)) shown));
        };
      }

  -- without `stop` there is a step
  sure : (s : State) (at : Placed about.system.variables ps s) (owed : LinearCase → List Linear → ℕ → ℕ → Option (List Known)) → HasChoice about.system.variables about.system.cases at.piece false owed → Taken about.system.variables about.system.cases s.location owed s.values
  sure s at owed h = elim (takes s at false owed h) [ inl t ↦ t | inr k ↦ absurd (never k.0) ]

  pub onward : (s : State) (at : Placed about.system.variables ps s) (into : List Marked) → HasChoice about.system.variables about.system.cases at.piece false (choice_into about into (λ c draws. no_fall)) → Onward about.system (Placed about.system.variables into) s
  onward s at into h = taken_lands s at.wide into (sure s at (choice_into about into (λ c draws. no_fall)) h)

  -- ---- the two kinds of node without sides

  pub term_sound : ((p : Marked) → Contains ps p → goes p ≡ true) → ((p : Marked) → Contains ps p → AllStepsCovered about.system.variables about.system.cases p ps (step_fall about p)) → (s : State) → Placed about.system.variables ps s → Ends (CaseSteps about.system) s
  term_sound going steps s at =
      Ends_by_ranks Falls falls_end (Ranked about.system.variables ps) (λ s old r t step. let now = moves s old r (steps r.at.piece r.at.among) t step in now.falls (going now.at.piece now.at.among))
      s (ranks_at at.piece s) (record { at = at; going = going at.piece at.among; ranks = refl })

  pub noterm_sound : ((p : Marked) → Contains ps p → HasChoice about.system.variables about.system.cases p false (choice_into about ps (λ c draws. no_fall))) → (s : State) → Placed about.system.variables ps s → Ends (CaseSteps about.system) s → ⊥
  noterm_sound choice s at h = Never_ends_by (Placed about.system.variables ps) (λ s at. let o = onward s at ps (choice at.piece at.among) in (o.next, o.step, o.into)) h at

  -- ---- fixpoints

  module _ (f g : State → Type 0) (hold : (p : Marked) → Contains ps p → goes p ≡ true → (s : State) → length s.values ≡ about.system.variables → InMarked p s → f s) (done : (p : Marked) → Contains ps p → goes p ≡ false → (s : State) → length s.values ≡ about.system.variables → InMarked p s → g s) where
    holds_at : (s : State) (at : Placed about.system.variables ps s) → goes at.piece ≡ true → f s
    holds_at s at go = hold at.piece at.among go s at.wide at.inside

    done_at : (s : State) (at : Placed about.system.variables ps s) → goes at.piece ≡ false → g s
    done_at s at end = done at.piece at.among end s at.wide at.inside

    start : (s : State) (at : Placed about.system.variables ps s) → goes at.piece ≡ true → Ranked about.system.variables ps s (ranks_at at.piece s)
    start s at go = record { at = at; going = go; ranks = refl }

    -- where it falls, or is done
    arrives : (old : List ℤ) (t : State) → Moved about.system.variables ps old t → g t ⊎ ((new : List ℤ) × Ranked about.system.variables ps t new × Falls old new)
    arrives old t now = by_goes (g t ⊎ ((new : List ℤ) × Ranked about.system.variables ps t new × Falls old new)) (goes now.at.piece) (λ go. inr (now.falls go)) (λ end. inl (done_at t now.at end))

    pub weak_every_sound : ((p : Marked) → Contains ps p → goes p ≡ true → AllStepsCovered about.system.variables about.system.cases p ps (λ c. no_fall)) → (s : State) → Placed about.system.variables ps s → WeakEvery (CaseSteps about.system) f g s
    weak_every_sound steps s at =
        Weak_every_by (Placed about.system.variables ps) (λ s at. by_goes (g s ⊎ (f s × ((t : State) → CaseSteps about.system s t → Placed about.system.variables ps t))) (goes at.piece)
        (λ go. inr (holds_at s at go, λ t step. lands s at ps (steps at.piece at.among go) t step))
        (λ end. inl (done_at s at end))) s at

    pub until_every_sound : ((p : Marked) → Contains ps p → goes p ≡ true → HasChoice about.system.variables about.system.cases p false (λ c draws. owed_nothing)) → ((p : Marked) → Contains ps p → goes p ≡ true → AllStepsCovered about.system.variables about.system.cases p ps (step_fall about p)) → (s : State) → Placed about.system.variables ps s → Must (CaseSteps about.system) f g s
    until_every_sound successor steps s at =
        by_goes (Must (CaseSteps about.system) f g s) (goes at.piece)
        (λ go. Must_by_ranks Falls falls_end (Ranked about.system.variables ps) (λ s old r. record {
          hold = holds_at s r.at r.going;
          successor = (let t = taken_step about.system.variables about.system (λ c draws. owed_nothing) s r.at.wide (sure s r.at (λ c draws. owed_nothing) (successor r.at.piece r.at.among r.going)) in (t.next, t.step));
          into = λ t step. arrives old t (moves s old r (steps r.at.piece r.at.among r.going) t step);
        }) s _ (start s at go))
        (λ end. reached (done_at s at end))

    pub until_any_sound : ((p : Marked) → Contains ps p → goes p ≡ true → HasChoice about.system.variables about.system.cases p false (choice_into about ps (choice_fall about p))) → (s : State) → Placed about.system.variables ps s → UntilAny (CaseSteps about.system) f g s
    until_any_sound choice s at =
        by_goes (UntilAny (CaseSteps about.system) f g s) (goes at.piece)
        (λ go. Until_any_by_ranks {f = f} {g = g} Falls falls_end (Ranked about.system.variables ps) (λ s old r.
        let o = taken_moves s old r (sure s r.at (choice_into about ps (choice_fall about r.at.piece)) (choice r.at.piece r.at.among r.going)) in
        (holds_at s r.at r.going, (o.next, o.step, arrives old o.next o.into))) s _ (start s at go))
        (λ end. ([], tt, done_at s at end, tt))

    pub weak_any_sound : ((p : Marked) → Contains ps p → goes p ≡ true → HasChoice about.system.variables about.system.cases p true (choice_into about ps (λ c draws. no_fall))) → (s : State) → Placed about.system.variables ps s → WeakAnyFails (CaseSteps about.system) f g s → ⊥
    weak_any_sound choice s at fails =
        Weak_any_by (Placed about.system.variables ps) (λ s at. by_goes (g s ⊎ (f s × (((t : State) × CaseSteps about.system s t × Placed about.system.variables ps t) ⊎ ((t : State) → CaseSteps about.system s t → ⊥)))) (goes at.piece)
        (λ go. inr (
          holds_at s at go,
          elim (takes s at true (choice_into about ps (λ c draws. no_fall)) (choice at.piece at.among go)) [
            | inl t ↦ let o = taken_lands s at.wide ps t in inl (o.next, o.step, o.into)
            | inr k ↦ inr (no_step s k.1)
          ],
        ))
        (λ end. inl (done_at s at end))) fails at

-- Runs, step by step.
use Rattle.std.proofs.Common.{◌≡◌, ℕ, zero, suc, ◌+◌, ◌∙◌, List, [], ◌∷◌, ◌++◌, length, map, All, ℤ, Some, refl, sym, ap, subst, Bool, true, false, cond, ◌==◌}
use Rattle.std.specs.Prelude.{Vec, Result, Ok, Err, IfOk}
use Rattle.std.specs.Global.{Global}
use Rattle.std.proofs.lemmas.List.Elements.{All-push}
use Rattle.std.specs.List.{Contains, slice_get}
use Rattle.tv_linear.specs.Linear.{IsMet}
use Rattle.tv_linear.specs.Known.{term_value}
use Rattle.tv_linear.specs.Terms.{terms_after}
use Rattle.tv_program.specs.Steps.{State}
use Rattle.tv_program.specs.Runs.{IsRun, last_of}
use Rattle.tv_cases.specs.LinearCases.{LinearCase, CaseSystem, CaseDoes, CaseSteps, from_of, leaving}
use Rattle.tv_cases.proofs.BeforeValue.{length-terms}
use Rattle.tv_cases.proofs.ContainsLemmas.{Contains-here, Contains-later}
use Rattle.tv_candidates.specs.declared.candidate.Candidate.{Candidate}
use Rattle.tv_candidates.proofs.OnRuns.{on_runs}
use Rattle.tv_invariant.specs.declared.reached.Reached.{Reached}
use Rattle.tv_invariant.specs.Reached.{state_of, IsReached, IsInNone, AreDrawn}
use Rattle.std.proofs.lemmas.List.{append-nil}
use Rattle.std.proofs.lemmas.Bool.{eqb-true}

-- ---- lists

pub pushed_all : {A B E : Type 0} (P : A → Type 0) (xs : List A) (x : A) → All P xs → P x → (result : Result B E) (new : Vec A Global) → IfOk result (λ _. new.items ≡ xs ++ x ∷ []) → IfOk result (λ _. All P new.items)
pushed_all P xs x all one (Ok b) new h = subst (All P) (sym h) (All-push P xs x all one)
pushed_all P xs x all one (Err e) new h = tt

-- ---- numbers drawn

pub drawn_none : (list : List ℤ) → AreDrawn 0 list list
drawn_none list = record { drawn = []; counted = refl; parts = sym (append-nil list) }

-- ---- runs

run_on : (step : State → State → Type 0) (s : State) (run : List State) (t : State) → IsRun step s run → step (last_of s run) t → IsRun step s (run ++ t ∷ [])
run_on step s [] t r h = (h, tt)
run_on step s (u ∷ run) t r h = (r.0, run_on step u run t r.1 h)

last_on : (s : State) (run : List State) (t : State) → last_of s (run ++ t ∷ []) ≡ t
last_on s [] t = refl
last_on s (u ∷ run) t = last_on u run t

module _ (about : CaseSystem) where
  pub reached_first : (r : Reached) → r.location ≡ about.start → length r.values.items ≡ about.variables → IsReached about r
  reached_first r place many = record {
    first = state_of r;
    run = [];
    from_start = record { place = place; counted = many; steps = tt };
    ends = refl;
    counted = many;
  }

  pub reached_next : (r t : Reached) (c : LinearCase) (ds : List ℤ) → IsReached about r → Contains about.cases c → r.location ≡ c.from → length ds ≡ c.draws → All (IsMet (r.values.items ++ ds)) c.guards → t.location ≡ c.to → t.values.items ≡ map (term_value (r.values.items ++ ds)) (terms_after about.variables c.updates) → IsReached about t
  reached_next r t c ds h among from drawn guards to values =
      let does : CaseDoes c ds (state_of r) (state_of t) = record {
        leaves = from;
        enters = to;
        drawn = drawn;
        guards = guards;
        gives = values ∙ ap (λ n. map (term_value (r.values.items ++ ds)) (terms_after n c.updates)) (sym h.counted);
      } in
      let step : CaseSteps about (state_of r) (state_of t) = record { taken = c; among = among; draws = ds; does = does } in
      record {
        first = h.first;
        run = h.run ++ state_of t ∷ [];
        from_start = record {
          place = h.from_start.place;
          counted = h.from_start.counted;
          steps = run_on (CaseSteps about) h.first h.run (state_of t) h.from_start.steps (subst (λ s. CaseSteps about s (state_of t)) (sym h.ends) step);
        };
        ends = last_on h.first h.run (state_of t);
        counted = ap length values ∙ length-terms (term_value (r.values.items ++ ds)) c.updates about.variables;
      }

  -- a candidate that is not met at a state that a run comes to
  pub unmet_in_none : (r : Reached) (c : Candidate) → IsReached about r → r.location ≡ c.location → (IsMet r.values.items c.row → ⊥) → IsInNone about c
  unmet_in_none r c h at unmet list inductive among =
      unmet (subst (λ (s : State). s.location ≡ c.location → IsMet s.values c.row) h.ends (on_runs about list inductive h.first h.run h.from_start c among) at)

-- ---- cases from a location

module _ (l : ℕ) (c : LinearCase) where
  at_one : (d : LinearCase) (cs : List LinearCase) (b : Bool) → (from_of d == l) ≡ b → ((k : ℕ) → slice_get (leaving l cs) k ≡ Some c → Contains cs c × (c.from ≡ l)) → (k : ℕ) → slice_get (cond b (d ∷ leaving l cs) (leaving l cs)) k ≡ Some c → Contains (d ∷ cs) c × (c.from ≡ l)
  at_one d cs true t again zero e =
      let s : d ≡ c = cc in
      (subst (Contains (d ∷ cs)) s (Contains-here d cs), sym (ap from_of s) ∙ eqb-true (from_of d) l t)
  at_one d cs true t again (suc k) e = let r = again k e in (Contains-later d c cs r.0, r.1)
  at_one d cs false t again k e = let r = again k e in (Contains-later d c cs r.0, r.1)

  pub leaves_from : (cases : List LinearCase) (k : ℕ) → slice_get (leaving l cases) k ≡ Some c → Contains cases c × (c.from ≡ l)
  leaves_from [] k e = absurd cc
  leaves_from (d ∷ cs) k e = at_one d cs (from_of d == l) refl (λ j f. leaves_from cs j f) k e

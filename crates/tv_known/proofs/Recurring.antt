-- a simple recurrence leads along a run without an end
use Rattle.std.proofs.Common.{◌≡◌, inl, inr, ◌∙◌, [], map, length, refl, sym, subst}
use Rattle.std.specs.Prelude.{All}
use Rattle.tv_linear.specs.Linear.{IsMet}
use Rattle.tv_linear.specs.Known.{term_value}
use Rattle.tv_linear.specs.Terms.{terms_after}
use Rattle.tv_program.specs.Steps.{State}
use Rattle.tv_cases.specs.LinearCases.{LinearCase, CaseSystem, CaseDoes, CaseSteps}
use Rattle.tv_program.specs.Runs.{Ends, all_end}
use Rattle.tv_meaning.proofs.RunLemmas.{Never_ends_by}
use Rattle.tv_known.specs.Recurrences.{IsKeptLoop, MayTake, HasSimpleRecurrence}
use Rattle.tv_known.specs.Laws.{SomeNeverEnds}
use Rattle.tv_known.proofs.RankedEnds.{values_kept}
use Rattle.std.proofs.lemmas.List.{append-nil}

-- a state that steps to itself
stays_there : (about : CaseSystem) (s : State) → CaseSteps about s s → Ends (CaseSteps about) s → ⊥
stays_there about s st ends = Never_ends_by (λ x. x ≡ s) (λ x e. (s, subst (λ y. CaseSteps about y s) (sym e) st, refl)) ends refl

-- the loop can be taken again and again
module _ (about : CaseSystem) (c : LinearCase) (loop : IsKeptLoop about c) where
  next : State → State
  next s = record { location = c.to; values = map (term_value s.values) (terms_after about.variables c.updates) }

  does : (s : State) → MayTake c s → length s.values ≡ about.variables → CaseDoes c [] s (next s)
  unfolding next
  does s may even = record {
    leaves = may.0;
    enters = refl;
    drawn = sym loop.no_draws;
    guards = subst (λ xs. All (IsMet xs) c.guards) (sym (append-nil s.values)) may.1;
    gives = (let back = sym (append-nil s.values) in let width = sym even in (λ i. map (term_value (back i)) (terms_after (width i) c.updates)));
  }

  again : (s : State) → MayTake c s → length s.values ≡ about.variables → MayTake c (next s)
  unfolding next
  again s may even = (sym loop.loop, loop.again s.values even may.1)

  goes_on : (s : State) → MayTake c s × (length s.values ≡ about.variables) → (t : State) × CaseSteps about s t × (MayTake c t × (length t.values ≡ about.variables))
  goes_on s can =
      let d = does s can.0 can.1 in
      (next s, record { taken = c; among = loop.among; draws = []; does = d }, (again s can.0 can.1, values_kept c [] s (next s) d ∙ can.1))

  pub loops_on : (s : State) → MayTake c s → length s.values ≡ about.variables → Ends (CaseSteps about) s → ⊥
  loops_on s may even ends = Never_ends_by (λ x. MayTake c x × (length x.values ≡ about.variables)) goes_on ends (may, even)

after_one : {about : CaseSystem} {s t : State} → CaseSteps about s t → Ends (CaseSteps about) s → Ends (CaseSteps about) t
after_one {about} {s} {t} st (all_end e) = e t st

pub never_end : (about : CaseSystem) → HasSimpleRecurrence about → SomeNeverEnds about
never_end about (inl here) = (here.0, here.1, stays_there about here.0 here.2)
never_end about (inr (c, loop, entered)) = (
  entered.0,
  entered.1,
  λ ends. elim entered.2 [
    | inl now ↦ loops_on about c loop entered.0 now entered.1.counted ends
    | inr later ↦
        loops_on about c loop later.0 later.2 (values_kept later.1.taken later.1.draws entered.0 later.0 later.1.does ∙ entered.1.counted)
        (after_one {about = about} {s = entered.0} {t = later.0} later.1 ends)
  ],
)

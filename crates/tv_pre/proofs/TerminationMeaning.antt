-- Termination is a fixpoint over every run, and its negation one over some run.
use Rattle.std.proofs.Common.{◌≡◌, inl, inr, ℕ, refl, true, false}
use Rattle.std.specs.Prelude.{All}
use Rattle.tv_formula.specs.declared.tree.Path.TheVariants.{Every, Any}
use Rattle.tv_formula.specs.declared.tree.Shape.TheVariants.{Until, Release}
use Rattle.tv_formula.specs.Properties.{term, negated, fix}
use Rattle.tv_program.specs.Runs.{Must, reached, further, Ends, all_end, WeakAnyFails}
use Rattle.tv_program.specs.Steps.{State}
use Rattle.tv_linear.specs.declared.region.Region.{Region}
use Rattle.tv_meaning.specs.Meaning.{Holds}
use Rattle.tv_cases.specs.LinearCases.{CaseSystem, CaseSteps, IsCase}
use Rattle.tv_known.specs.Cycles.{IsStateOf}
use Rattle.tv_known.specs.Laws.{Decides}
use Rattle.tv_known.specs.Rounds.{Goes, Stops}
use Rattle.tv_known.specs.Subformulas.{IsUnsettled}
use Rattle.tv_known.proofs.RoundLemmas.{stays_state}
use Rattle.tv_pre.specs.Full.{IsFull}
use Rattle.tv_pre.specs.Termination.{anything, stopping, nothing, going}
use Rattle.tv_pre.proofs.SettledRounds.{fix_settled_same}

pub untrue : false ≡ true → ⊥
untrue e = cc

module _ (about : CaseSystem) where
  -- the until comes to a state without a step on every run
  ended : {s : State} → Must (CaseSteps about) (λ x. Holds (CaseSteps about) anything x) (λ x. Holds (CaseSteps about) stopping x) s → Ends (CaseSteps about) s
  ended (reached stops) = all_end (λ t st. absurd (untrue (stops t st)))
  ended (further t h st all) = all_end (λ x sx. ended (all x sx))

  -- a region that lacks only states where the release fails lacks only those from which every run ends
  pub never_full : (region : Region) → IsFull about (fix Any Release nothing going) region → IsFull about (negated term) region
  never_full region full s is n = ended (full s is n)

  module _ (cases : All (IsCase about.variables about.locations) about.cases) where
    -- where every run ends, it comes to a state without a step
    comes_to_stop : Decides about (Goes about) → {s : State} → IsStateOf about s → Ends (CaseSteps about) s → WeakAnyFails (CaseSteps about) (λ x. Holds (CaseSteps about) going x) (λ x. Holds (CaseSteps about) nothing x × Holds (CaseSteps about) going x) s
    comes_to_stop goes {s} is (all_end e) = elim (goes s is) [
      | inl go ↦ further go.0 (λ h. untrue h.0) go.1 (λ t st. comes_to_stop goes (stays_state about cases s t is st) (e t st))
      | inr stops ↦ reached ((λ g. stops (g.0, g.1)), (λ h. untrue h.0))
    ]

    pub term_full : Decides about (Goes about) → (region : Region) → IsFull about (fix Every Until anything stopping) region → IsFull about term region
    term_full goes region full s is n ends = full s is n (comes_to_stop goes is ends)

    -- ---- rounds
    pub term_open : (k : ℕ) → IsUnsettled about k (fix Every Until anything stopping) → IsUnsettled about k term
    term_open k unsettled settled =
        unsettled (fix_settled_same about cases Every Until (λ s. Holds (CaseSteps about) anything s) (λ s. Holds (CaseSteps about) stopping s) (λ s. Unit {0}) (Stops about)
        (λ s is. ((λ h. tt), (λ h. refl))) (λ s is. ((λ h t st. untrue (h t st)), (λ h t st. absurd (h t st)))) k settled)

    pub never_open : (k : ℕ) → IsUnsettled about k (fix Any Release nothing going) → IsUnsettled about k (negated term)
    never_open k unsettled settled =
        unsettled (fix_settled_same about cases Any Release (λ s. Holds (CaseSteps about) nothing s) (λ s. Holds (CaseSteps about) going s) (λ s. ⊥) (Goes about)
        (λ s is. ((λ h. untrue h), (λ h. absurd h))) (λ s is. ((λ h. (h.0, h.1)), (λ h. (h.0, h.1, refl)))) k settled)

-- Regions of termination and of its negation that have the states that rounds tell of.
use Rattle.std.proofs.Common.{◌≡◌, inl, inr, ℕ, refl, sym, subst, Bool}
use Rattle.std.specs.Prelude.{All, ◌↔◌}
use Rattle.tv_formula.specs.declared.tree.Path.{Path}
use Rattle.tv_formula.specs.declared.tree.Path.TheVariants.{Every, Any}
use Rattle.tv_formula.specs.declared.tree.Shape.{Shape}
use Rattle.tv_formula.specs.declared.tree.Shape.TheVariants.{Until, Release}
use Rattle.tv_formula.specs.Properties.{Property, term, negated}
use Rattle.tv_program.specs.Runs.{Ends}
use Rattle.tv_program.specs.Steps.{State}
use Rattle.tv_linear.specs.declared.region.Region.{Region}
use Rattle.tv_cases.specs.Comparisons.{comparison_lists}
use Rattle.tv_cases.specs.LinearCases.{CaseSystem, CaseSteps, IsCase}
use Rattle.tv_cert.specs.Statements as statements
use Rattle.tv_known.specs.Cycles.{IsStateOf}
use Rattle.tv_known.specs.Known.{Known, FixKnown}
use Rattle.tv_known.specs.Ranking.{HasLexicographicRanking}
use Rattle.tv_known.specs.Rounds.{Goes, Stops}
use Rattle.tv_known.proofs.KnownHolds.{known_holds}
use Rattle.tv_region.specs.StepRegions.{InState}
use Rattle.tv_rounds.specs.Calls.{IsNowhere}
use Rattle.tv_pre.specs.declared.sides.Sides.{Sides}
use Rattle.tv_pre.specs.Growing.{IsEverywhere}
use Rattle.tv_pre.specs.KnownStates.{HasStates, IsKnownFor, known_along}
use Rattle.tv_pre.specs.Termination.{anything, stopping, nothing, going, AreSidesOf}
use Rattle.tv_pre.proofs.FormulaLemmas.{ends_is, never_is}
use Rattle.tv_pre.proofs.KnownAlongLemmas.{has_same}
use Rattle.tv_pre.proofs.KnownRounds.{known_same}
use Rattle.tv_pre.proofs.SetLemmas.{no_piece}
use Rattle.tv_pre.proofs.StepsTold.{tame_goes}
use Rattle.tv_pre.proofs.TerminationMeaning.{untrue}

-- of the same two pairs of sets the same is known
same_known : (about : CaseSystem) → All (IsCase about.variables about.locations) about.cases → (last : ℕ) (path : Path) (shape : Shape) (A B P Q : State → Type 0) →
    ((s : State) → IsStateOf about s → A s ↔ P s) → ((s : State) → IsStateOf about s → B s ↔ Q s) → (s : State) → IsStateOf about s → FixKnown about last path shape A B s ↔ FixKnown about last path shape P Q s
same_known about cases last path shape A B P Q a b s is = (
  λ k. known_same about cases last path A B P Q a b shape s is k,
  λ k. known_same about cases last path P Q A B (λ t q. ((a t q).1, (a t q).0)) (λ t q. ((b t q).1, (b t q).0)) shape s is k,
)

module _ (about : CaseSystem) (last : ℕ) (alone : Bool) (region : Region) where
  -- whatever formula it is of
  pub ends_for : HasStates about alone (λ t. Known about last term t) region → IsKnownFor about last alone statements.ends region
  ends_for h tame f e rows = subst (λ (g : Property). HasStates about alone (λ t. Known about last g t) region) (sym (ends_is (comparison_lists about.variables) f e)) h

  pub never_for : HasStates about alone (λ t. Known about last (negated term) t) region → IsKnownFor about last alone statements.never_ends region
  never_for h tame f e rows = subst (λ (g : Property). HasStates about alone (λ t. Known about last g t) region) (sym (never_is (comparison_lists about.variables) f e)) h

  -- ---- ranked programs
  pub all_end_known : IsEverywhere about region → HasLexicographicRanking about → IsKnownFor about last alone statements.ends region
  all_end_known every ranking tame =
      ends_for (record {
        all = λ s is k. every.all s is.location;
        only = λ e s is m. inr (record {
          ranking = ranking;
          goes = λ t q. elim (tame_goes about statements.ends tame t q) [ inl go ↦ inr (tt, go) | inr stops ↦ inl (λ u st. stops (u, st)) ];
        });
      }) tame

  pub none_never_known : All (IsCase about.variables about.locations) about.cases → IsNowhere about region → ((s : State) → IsStateOf about s → Ends (CaseSteps about) s) → IsKnownFor about last alone statements.never_ends region
  none_never_known cases n all =
      never_for (record {
        all = λ s is k. absurd (known_holds about cases last (negated term) refl s is k (all s is));
        only = λ e s is m. absurd (no_piece region.pieces.items s n.none m);
      })

-- ---- rounds
module _ (about : CaseSystem) (cases : All (IsCase about.variables about.locations) about.cases) (last : ℕ) (alone : Bool) (region : Region) (sides : Sides) where
  module _ (path : sides.path ≡ Every) (shape : sides.shape ≡ Until) (h : AreSidesOf about Every anything stopping sides.first.now sides.second.now) where
    ends_same : (s : State) → IsStateOf about s → known_along about last sides s ↔ Known about last term s
    ends_same s is =
        subst (λ q. FixKnown about last q sides.shape (λ t. InState sides.first.now t) (λ t. InState sides.second.now t) s ↔ Known about last term s) (sym path)
        (subst (λ w. FixKnown about last Every w (λ t. InState sides.first.now t) (λ t. InState sides.second.now t) s ↔ Known about last term s) (sym shape)
        (same_known about cases last Every Until (λ t. InState sides.first.now t) (λ t. InState sides.second.now t) (λ t. Unit {0}) (Stops about)
        (λ t q. ((λ m. tt), (λ m. (h.first_exact t q).1 refl)))
        (λ t q. ((λ m u st. untrue ((h.second_exact t q).0 m u st)), (λ stops. (h.second_exact t q).1 (λ u st. absurd (stops u st))))) s is))

    pub ends_along : HasStates about alone (λ s. known_along about last sides s) region → IsKnownFor about last alone statements.ends region
    ends_along k = ends_for about last alone region (has_same about alone (λ s. known_along about last sides s) (λ s. Known about last term s) region ends_same k)

  module _ (path : sides.path ≡ Any) (shape : sides.shape ≡ Release) (h : AreSidesOf about Any nothing going sides.first.now sides.second.now) where
    never_same : (s : State) → IsStateOf about s → known_along about last sides s ↔ Known about last (negated term) s
    never_same s is =
        subst (λ q. FixKnown about last q sides.shape (λ t. InState sides.first.now t) (λ t. InState sides.second.now t) s ↔ Known about last (negated term) s) (sym path)
        (subst (λ w. FixKnown about last Any w (λ t. InState sides.first.now t) (λ t. InState sides.second.now t) s ↔ Known about last (negated term) s) (sym shape)
        (same_known about cases last Any Release (λ t. InState sides.first.now t) (λ t. InState sides.second.now t) (λ t. ⊥) (Goes about)
        (λ t q. ((λ m. untrue ((h.first_exact t q).0 m)), (λ no. absurd no)))
        (λ t q. ((λ m. (let w = (h.second_exact t q).0 m in (w.0, w.1))), (λ go. (h.second_exact t q).1 (go.0, go.1, refl)))) s is))

    pub never_along : HasStates about alone (λ s. known_along about last sides s) region → IsKnownFor about last alone statements.never_ends region
    never_along k = never_for about last alone region (has_same about alone (λ s. known_along about last sides s) (λ s. Known about last (negated term) s) region never_same k)

-- The same of the program whose cases these are.
use Rattle.std.proofs.Common.{◌≡◌, ◌∙◌, sym, refl}
use Rattle.std.specs.Prelude.{length}
use Rattle.tv_program.specs.Systems.{System}
use Rattle.tv_program.specs.Steps.{Steps}
use Rattle.tv_formula.specs.Properties.{Property, term}
use Rattle.tv_cases.specs.LinearCases.{CaseSystem, CaseSteps}
use Rattle.tv_meaning.proofs.RunLemmas.{never_endless}
use Rattle.tv_meaning.proofs.SameSteps.{SameOn, Holds_along}
use Rattle.tv_known.specs.Ranking.{HasLexicographicRanking}
use Rattle.tv_known.specs.Laws.{AreCasesOf, ProgramEnds, KnownHoldsIn, NoneIsEndless}
use Rattle.tv_known.proofs.RankedEnds.{values_kept, every_run_ends}
use Rattle.tv_known.proofs.KnownHolds.{known_holds}

module _ (p : System) (about : CaseSystem) (are : AreCasesOf p about) where
  same_steps : SameOn (λ s. length s.values ≡ length p.variables) (CaseSteps about) (Steps p)
  same_steps = record {
    to = λ s t even st. (are.steps s t even).1 st;
    back = λ s t even st. (are.steps s t even).0 st;
    stays = λ s t even st. values_kept st.taken st.draws s t st.does ∙ even;
  }

  pub program_ends : HasLexicographicRanking about → ProgramEnds p
  program_ends ranking s even = Holds_along (λ x. length x.values ≡ length p.variables) (CaseSteps about) (Steps p) same_steps term s even (every_run_ends about ranking s (even ∙ sym are.same.variables))

  pub known_in : (f : Property) → KnownHoldsIn p about f
  known_in f n last s is k =
      Holds_along (λ x. length x.values ≡ length p.variables) (CaseSteps about) (Steps p) same_steps f s (is.values ∙ are.same.variables) (known_holds about are.cases last f n s is k)

pub none_endless : (about : CaseSystem) → HasLexicographicRanking about → NoneIsEndless about
none_endless about ranking run even steps = never_endless (every_run_ends about ranking (run 0) even) run steps 0 refl

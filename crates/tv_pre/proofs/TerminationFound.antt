-- What is found of termination and of its negation.
use Rattle.std.proofs.Common.{◌≡◌, ℕ, ◌+◌, ◌≤◌, sym, subst}
use Rattle.std.specs.Prelude.{None, IfSome}
use Rattle.tv_formula.specs.Properties.{term, negated}
use Rattle.tv_program.specs.Runs.{Ends}
use Rattle.tv_program.specs.Steps.{State}
use Rattle.tv_linear.specs.declared.region.Region.{Region}
use Rattle.tv_cases.specs.Comparisons.{comparison_lists}
use Rattle.tv_cases.specs.LinearCases.{CaseSystem, CaseSteps}
use Rattle.tv_cert.specs.Statements as statements
use Rattle.tv_known.specs.Cycles.{IsLastRound, IsStateOf}
use Rattle.tv_known.specs.Sizes.{count, term_count, no_term_count}
use Rattle.tv_known.proofs.SizeLemmas.{trans}
use Rattle.tv_region.specs.Regions.{IsRegion, count_at}
use Rattle.tv_region.specs.StepRegions.{HasNoDraws}
use Rattle.tv_rounds.specs.Calls.{IsNowhere}
use Rattle.tv_pre.specs.declared.outcome.Found.{Found}
use Rattle.tv_pre.specs.Built.{IsBuilt, of_everywhere, of_nowhere}
use Rattle.tv_pre.specs.Finding.{IsGapFor, IsFound}
use Rattle.tv_pre.specs.Full.{IsFull}
use Rattle.tv_pre.specs.Growing.{IsEverywhere}
use Rattle.tv_pre.specs.Parts.{IsPart}
use Rattle.tv_pre.proofs.FormulaLemmas.{ends_is, never_is}
use Rattle.tv_pre.proofs.FullAlongLemmas.{all_full}
use Rattle.tv_pre.proofs.SizedLemmas.{none_less, everywhere_few, nowhere_few, term_one}

module _ (about : CaseSystem) (last : ℕ) where
  -- no more pieces than are counted, where no case has a draw
  abbrev IsFewBy : (ℕ → ℕ → ℕ) → Region → Type 0
  IsFewBy bound region = HasNoDraws about → (m : ℕ) → IsLastRound about 9 m → (l : ℕ) → count_at l region ≤ bound m l

  pub term_found : (found : Found) → IsRegion about.variables about.locations found.part.region → IsPart about term found.part.region found.part.node → IsBuilt about statements.ends ((last + 2) + (last + 2)) found.part.region → found.size ≡ 1 →
      IfSome found.gap (IsGapFor about last statements.ends) → (found.gap ≡ None → IsFull about term found.part.region) → IsFewBy (term_count about.cases) found.part.region → IsFound about last statements.ends found
  term_found found over part built size gap full bounded = record {
    gap = gap;
    over = over;
    shows = λ f e. subst (λ g. IsPart about g found.part.region found.part.node) (sym (ends_is (comparison_lists about.variables) f e)) part;
    built = built;
    size = size;
    full = λ none f e rows. subst (λ g. IsFull about g found.part.region) (sym (ends_is (comparison_lists about.variables) f e)) (full none);
    bounded = λ plain m is f e l. subst (λ g. count_at l found.part.region ≤ count about.cases m g l) (sym (ends_is (comparison_lists about.variables) f e)) (bounded plain m is l);
  }

  pub never_found : (found : Found) → IsRegion about.variables about.locations found.part.region → IsPart about (negated term) found.part.region found.part.node → IsBuilt about statements.never_ends ((last + 2) + (last + 2)) found.part.region → found.size ≡ 1 →
      IfSome found.gap (IsGapFor about last statements.never_ends) → (found.gap ≡ None → IsFull about (negated term) found.part.region) → IsFewBy (no_term_count about.cases) found.part.region → IsFound about last statements.never_ends found
  never_found found over part built size gap full bounded = record {
    gap = gap;
    over = over;
    shows = λ f e. subst (λ g. IsPart about g found.part.region found.part.node) (sym (never_is (comparison_lists about.variables) f e)) part;
    built = built;
    size = size;
    full = λ none f e rows. subst (λ g. IsFull about g found.part.region) (sym (never_is (comparison_lists about.variables) f e)) (full none);
    bounded = λ plain m is f e l. subst (λ g. count_at l found.part.region ≤ count about.cases m g l) (sym (never_is (comparison_lists about.variables) f e)) (bounded plain m is l);
  }

  -- ---- everywhere and nowhere
  pub all_end_found : (found : Found) → IsEverywhere about found.part.region → IsPart about term found.part.region found.part.node → found.size ≡ 1 → IfSome found.gap (IsGapFor about last statements.ends) → IsFound about last statements.ends found
  all_end_found found e part size gap =
      term_found found e.over part (of_everywhere ((last + 2) + (last + 2)) found.part.region e) size gap (λ none. all_full about term found.part.region (λ s q. e.all s q.location))
      (λ plain m is l. trans (count_at l found.part.region) 1 (term_count about.cases m l) (everywhere_few about found.part.region e l) (term_one about.cases m l))

  pub nowhere_found : (found : Found) → IsNowhere about found.part.region → IsPart about (negated term) found.part.region found.part.node → found.size ≡ 1 →
      IfSome found.gap (IsGapFor about last statements.never_ends) → (found.gap ≡ None → IsFull about (negated term) found.part.region) → IsFound about last statements.never_ends found
  nowhere_found found n part size gap full =
      never_found found n.fits part (of_nowhere ((last + 2) + (last + 2)) found.part.region n) size gap full
      (λ plain m is l. trans (count_at l found.part.region) 0 (no_term_count about.cases m l) (nowhere_few about found.part.region n l) (none_less (no_term_count about.cases m l)))

  pub none_never_found : (found : Found) → IsNowhere about found.part.region → IsPart about (negated term) found.part.region found.part.node → found.size ≡ 1 → IfSome found.gap (IsGapFor about last statements.never_ends) → ((s : State) → IsStateOf about s → Ends (CaseSteps about) s) → IsFound about last statements.never_ends found
  none_never_found found n part size gap all = nowhere_found found n part size gap (λ none s q m. all s q)

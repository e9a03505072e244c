-- Refusals for too many pieces report no more than the size, and questions that are refused have no more targets.
use Rattle.std.proofs.Common.{◌≡◌, inl, inr, ℕ, ◌<◌, ◌≤◌, refl, sym, ap, ◌∙◌, subst, arith, List, [], length, Bool, true, false}
use Rattle.std.specs.Prelude.{max, nat_lt}
use Rattle.std.proofs.Math.Nat.{le-max_left, le-max_right}
use Rattle.std.proofs.lemmas.Bool.Decides.{nat_tests}
use Rattle.tv_formula.specs.Formulas.{property_of}
use Rattle.tv_formula.specs.Normal.{normal, negation, normals, negations}
use Rattle.tv_formula.specs.Parts.{HasParts, AreSomeParts, AllHaveParts}
use Rattle.tv_formula.specs.Properties.{Property, truth, compare, at, term, negated, all_of, some_of, next, fix, Properties, none, more}
use Rattle.tv_linear.specs.declared.region.Piece.{Piece}
use Rattle.tv_farkas.specs.declared.budget.Budget.{Budget}
use Rattle.tv_farkas.specs.declared.fault.CoverFault.{CoverFault}
use Rattle.tv_farkas.specs.declared.fault.CoverFault.TheVariants as covers
use Rattle.tv_cases.specs.Comparisons.{comparison_lists}
use Rattle.tv_cases.specs.LinearCases.{CaseSystem, AreCases}
use Rattle.tv_cert.specs.declared.claim.Claim.{Claim}
use Rattle.tv_cert.specs.AimViews.{aim_states}
use Rattle.tv_cert.specs.Statements.{Statement, stated}
use Rattle.tv_known.specs.Cycles.{IsLastRound}
use Rattle.tv_known.specs.Sizes.{count, greatest_count, size_bound}
use Rattle.tv_known.proofs.SizeLemmas.{below_greatest, trans}
use Rattle.tv_region.specs.Regions.{lists_at, count_at}
use Rattle.tv_region.specs.Algebra.{IsBothFault, IsEitherFault, IsRestFault}
use Rattle.tv_region.specs.StepRegions.{HasNoDraws, IsAnyFault, IsEveryFault}
use Rattle.tv_region.specs.declared.fault.RegionFault.{RegionFault}
use Rattle.tv_region.specs.declared.fault.RegionFault.TheVariants as regions
use Rattle.tv_pre.specs.declared.fault.PreFault.{PreFault}
use Rattle.tv_pre.specs.declared.fault.PreFault.TheVariants as faults
use Rattle.tv_pre.specs.Built.{IsRefusedRegion, in_both, in_either, in_rest, in_any, in_every, IsAsked, IsPreFault}
use Rattle.tv_pre.specs.Counted.{into_of, IsFewInto, IsFewRefused, IsWithinFew, IsCountedFor}
use Rattle.tv_pre.specs.Finding.{steps_back}
use Rattle.tv_pre.specs.Proving.{IsFoundOf, pieces_of, IsRefusedWith, of_formula, of_start, IsAskedOf, of_way, of_found}
use Rattle.tv_pre.specs.Questions.{Question, IsRefused, IsRefusal}
use Rattle.tv_pre.specs.Starting.{AsksStart, AsksEmpty}
use Rattle.tv_pre.specs.Told.{RefusalIsWithinSize, QuestionIsWithinSize}
use Rattle.tv_pre.specs.declared.outcome.Found.{Found}
use Rattle.tv_pre.proofs.CountedFormulas.{own_count}
use Rattle.tv_pre.proofs.FarCounts.{none_leaving, far_greatest}
use Rattle.tv_pre.proofs.FewTargets.{lies_few}
use Rattle.tv_pre.proofs.SizedLemmas.{none_less}

-- ---- parts of normal forms and of negations
mutual
  normal_parts : (f : Property) → HasParts f → HasParts (normal f)
  normal_parts (truth b) h = tt
  normal_parts (compare r a b) h = tt
  normal_parts (at l) h = tt
  normal_parts term h = tt
  normal_parts (negated f) h = negation_parts f h
  normal_parts (all_of fs) h = some_normals fs h
  normal_parts (some_of fs) h = some_normals fs h
  normal_parts (next path f) h = normal_parts f h
  normal_parts (fix path shape f g) h = (normal_parts f h.0, normal_parts g h.1)

  negation_parts : (f : Property) → HasParts f → HasParts (negation f)
  negation_parts (truth b) h = tt
  negation_parts (compare r a b) h = tt
  negation_parts (at l) h = tt
  negation_parts term h = tt
  negation_parts (negated f) h = normal_parts f h
  negation_parts (all_of fs) h = some_negations fs h
  negation_parts (some_of fs) h = some_negations fs h
  negation_parts (next path f) h = negation_parts f h
  negation_parts (fix path shape f g) h = (negation_parts f h.0, negation_parts g h.1)

  some_normals : (fs : Properties) → AreSomeParts fs → AreSomeParts (normals fs)
  some_normals none h = h
  some_normals (more f fs) h = (normal_parts f h.0, all_normals fs h.1)

  some_negations : (fs : Properties) → AreSomeParts fs → AreSomeParts (negations fs)
  some_negations none h = h
  some_negations (more f fs) h = (negation_parts f h.0, all_negations fs h.1)

  all_normals : (fs : Properties) → AllHaveParts fs → AllHaveParts (normals fs)
  all_normals none h = tt
  all_normals (more f fs) h = (normal_parts f h.0, all_normals fs h.1)

  all_negations : (fs : Properties) → AllHaveParts fs → AllHaveParts (negations fs)
  all_negations none h = tt
  all_negations (more f fs) h = (negation_parts f h.0, all_negations fs h.1)

module _ (about : CaseSystem) where
  -- ---- the size
  module _ (cases : AreCases about) (m : ℕ) (f : Property) where
    -- a bound at each location, also past the last
    at_each : (p : ℕ → ℕ) → ((l : ℕ) → p l ≤ max (greatest_count about.cases m (normal f) l) (greatest_count about.cases m (negation f) l)) → ((l : ℕ) → about.locations ≤ l → p l ≤ p about.start) → (l : ℕ) → p l ≤ size_bound about m f
    at_each p w far l = by_place (nat_lt l about.locations) refl where
      within_at : (k : ℕ) → k < about.locations → p k ≤ size_bound about m f
      within_at k h = trans (p k) (max (greatest_count about.cases m (normal f) k) (greatest_count about.cases m (negation f) k)) (size_bound about m f) (w k) (below_greatest about.locations (λ l. max (greatest_count about.cases m (normal f) l) (greatest_count about.cases m (negation f) l)) k h)

      by_place : (b : Bool) → nat_lt l about.locations ≡ b → p l ≤ size_bound about m f
      by_place true e = within_at l (grind (arith, nat_tests, e))
      by_place false e = trans (p l) (p about.start) (size_bound about m f) (far l (grind (arith, nat_tests, e))) (within_at about.start cases.starts)

    far_one : (g : Property) (l : ℕ) → about.locations ≤ l → greatest_count about.cases m g l ≤ greatest_count about.cases m g about.start
    far_one g l h = far_greatest about.cases l about.start (none_leaving about.variables about.locations l h about.cases cases.cases) m g

    normal_within : (l : ℕ) → greatest_count about.cases m (normal f) l ≤ size_bound about m f
    normal_within = at_each (greatest_count about.cases m (normal f)) (λ l. le-max_left (greatest_count about.cases m (normal f) l) (greatest_count about.cases m (negation f) l)) (far_one (normal f))

    negation_within : (l : ℕ) → greatest_count about.cases m (negation f) l ≤ size_bound about m f
    negation_within = at_each (greatest_count about.cases m (negation f)) (λ l. le-max_right (greatest_count about.cases m (normal f) l) (greatest_count about.cases m (negation f) l)) (far_one (negation f))

  -- ---- the limit
  limit_less : (s : Statement) (budget : Budget) (h : ℕ) (fault : RegionFault) (l k : ℕ) → fault ≡ regions.Disjuncts l k → IsRefusedRegion about s budget h fault → budget.disjuncts < k
  limit_less s budget _ _ l k e (in_both h a b fault f g is) = (let w = subst (IsBothFault a b budget) e is in w.1)
  limit_less s budget _ _ l k e (in_either h a b fault f g is) = (let w = subst (IsEitherFault a b budget) e is in w.1)
  limit_less s budget _ _ l k e (in_rest h a fault f is) = (let w = subst (IsRestFault a budget) e is in w.1)
  limit_less s budget _ _ l k e (in_any h a fault f is) = (let w = subst (IsAnyFault about a budget) e is in w.1)
  limit_less s budget _ _ l k e (in_every h a fault f is) = (let w = subst (IsEveryFault about a budget) e is in w.1)

  some_last : (m : ℕ) → IsLastRound about 9 m → (n : ℕ) × IsLastRound about 8 n
  some_last m (inl h) = (8, inl (h.0, refl))
  some_last m (inr h) = (about.locations, inr (h.0, refl))

  -- ---- refusals
  formula_refused : (s : Statement) (budget : Budget) (asks : List Piece → Question → Type 0) (fault : RegionFault) (r : PreFault) → r ≡ faults.Region fault → IsRefusedWith about s budget asks r →
      ((last : ℕ) → IsLastRound about 8 last → IsPreFault about s budget (steps_back last s) r) × ((last : ℕ) → IsLastRound about 8 last → IsCountedFor about budget last s r)
  formula_refused s budget asks fault _ e (of_formula r h c) = (h, c)
  formula_refused s budget asks fault _ e (of_start found cover is w) = absurd cc

  of_size : HasNoDraws about → (s : Statement) (budget : Budget) (asks : List Piece → Question → Type 0) (m : ℕ) → IsLastRound about 9 m → (g : Property) → HasParts g → s ≡ stated (comparison_lists about.variables) g → (l k : ℕ) → IsRefusedWith about s budget asks (faults.Region (regions.Disjuncts l k)) →
      (budget.disjuncts < k) × (k ≤ greatest_count about.cases m g l)
  of_size plain s budget asks m is g parts e l k h =
      let w = formula_refused s budget asks (regions.Disjuncts l k) (faults.Region (regions.Disjuncts l k)) refl h in
      let n = some_last m is in
      (limit_less s budget (steps_back n.0 s) (regions.Disjuncts l k) l k refl (w.0 n.0 n.1).0, w.1 n.0 n.1 plain m is g parts e)

  pub refusal_within_size : AreCases about → (claim : Claim) (f : Property) (budget : Budget) → RefusalIsWithinSize about claim f budget
  refusal_within_size cases claim f budget on plain parts l k (inl h) n size =
      let e : aim_states claim.proved_aim ≡ stated (comparison_lists about.variables) (normal f) =
      claim.proved_stated ∙ ap (λ v. stated (comparison_lists v) (property_of claim.proved)) on.variables ∙ ap (stated (comparison_lists about.variables)) on.is.proved in
      let w = of_size plain (aim_states claim.proved_aim) budget (AsksStart about) size.0 size.1 (normal f) (normal_parts f parts) e l k h in
      (w.0, subst (λ j. k ≤ j) (sym size.2) (trans k (greatest_count about.cases size.0 (normal f) l) (size_bound about size.0 f) w.1 (normal_within cases size.0 f l)))
  refusal_within_size cases claim f budget on plain parts l k (inr h) n size =
      let e : aim_states claim.denied_aim ≡ stated (comparison_lists about.variables) (negation f) =
      claim.denied_stated ∙ ap (λ v. stated (comparison_lists v) (property_of claim.denied)) on.variables ∙ ap (stated (comparison_lists about.variables)) on.is.denied in
      let w = of_size plain (aim_states claim.denied_aim) budget (AsksEmpty about) size.0 size.1 (negation f) (negation_parts f parts) e l k h in
      (w.0, subst (λ j. k ≤ j) (sym size.2) (trans k (greatest_count about.cases size.0 (negation f) l) (size_bound about size.0 f) w.1 (negation_within cases size.0 f l)))

  -- ---- questions
  start_refused : (budget : Budget) (own : Question → Type 0) (fault : CoverFault) → (fault ≡ covers.Memory → ⊥) → IsRefusal about budget own fault → IsRefused about budget own fault
  start_refused budget own (covers.Splits path) n m = m
  start_refused budget own (covers.Solve kept f) n m = m
  start_refused budget own (covers.Wide column) n m = m
  start_refused budget own covers.Memory n m = absurd (n cc)

  module _ (plain : HasNoDraws about) (s : Statement) (budget : Budget) (asks : List Piece → Question → Type 0) (m : ℕ) (is : IsLastRound about 9 m) (g : Property) (parts : HasParts g) (e : s ≡ stated (comparison_lists about.variables) g) (n : ℕ) (bound : (l : ℕ) → greatest_count about.cases m g l ≤ n) (few : (found : Found) → IsFoundOf about s found → (a : Question) → asks (pieces_of found) a → IsFewInto (λ l. n) a) where
    question_refused : (fault : CoverFault) (r : PreFault) → r ≡ faults.Cover fault → (fault ≡ covers.Memory → ⊥) → IsRefusedWith about s budget asks r → IsFewRefused about budget (IsAskedOf about s asks) (λ l. n) fault
    question_refused fault _ same some (of_formula r h c) =
        let k = some_last m is in
        let told = subst (IsWithinFew about budget (IsAsked about s (steps_back k.0 s)) (greatest_count about.cases m g)) same (c k.0 k.1 plain m is g parts e) in
        record {
          question = told.question;
          asked = of_way k.0 told.question k.1 told.asked;
          few = λ l. trans (length (lists_at l (into_of told.question))) (greatest_count about.cases m g l) n (told.few l) (bound l);
          refuses = told.refuses;
        }
    question_refused fault _ same some (of_start found cover is_found w) =
        let alike : cover ≡ fault = cc in
        let told = start_refused budget (asks (pieces_of found)) fault some (subst (IsRefusal about budget (asks (pieces_of found))) alike w) in
        record {
          question = told.question;
          asked = of_found found told.question is_found told.asked;
          few = few found is_found told.question told.asked;
          refuses = told.refuses;
        }

  -- the pieces of what is found, into which a question of the start leads
  start_few : HasNoDraws about → (s : Statement) (m : ℕ) → IsLastRound about 9 m → (g : Property) → s ≡ stated (comparison_lists about.variables) g → (n : ℕ) → ((l : ℕ) → greatest_count about.cases m g l ≤ n) → (found : Found) → IsFoundOf about s found → (a : Question) → AsksStart about (pieces_of found) a → IsFewInto (λ l. n) a
  start_few plain s m is g e n bound found h a w =
      let region = found.part.region in
      lies_few about (λ l. n) w.0 (pieces_of found) a w.2 (λ l.
      trans (count_at l region) (greatest_count about.cases m g l) n
      (trans (count_at l region) (count about.cases m g l) (greatest_count about.cases m g l) (h.bounded plain m is g e l) (own_count about.cases m l g)) (bound l))

  empty_few : (n : ℕ) (pieces : List Piece) (a : Question) → AsksEmpty about pieces a → IsFewInto (λ l. n) a
  empty_few n pieces a w = lies_few about (λ l. n) w.0 [] a w.3 (λ l. none_less n)

  pub question_within_size : AreCases about → (claim : Claim) (f : Property) (budget : Budget) → QuestionIsWithinSize about claim f budget
  question_within_size cases claim f budget on plain parts fault some (inl h) n size =
      let e : aim_states claim.proved_aim ≡ stated (comparison_lists about.variables) (normal f) =
      claim.proved_stated ∙ ap (λ v. stated (comparison_lists v) (property_of claim.proved)) on.variables ∙ ap (stated (comparison_lists about.variables)) on.is.proved in
      let bound : (l : ℕ) → greatest_count about.cases size.0 (normal f) l ≤ n = λ l. subst (λ j. greatest_count about.cases size.0 (normal f) l ≤ j) (sym size.2) (normal_within cases size.0 f l) in
      let w = question_refused plain (aim_states claim.proved_aim) budget (AsksStart about) size.0 size.1 (normal f) (normal_parts f parts) e n bound
      (start_few plain (aim_states claim.proved_aim) size.0 size.1 (normal f) e n bound) fault (faults.Cover fault) refl some h in
      record { question = w.question; asked = inl w.asked; few = w.few; refuses = w.refuses }
  question_within_size cases claim f budget on plain parts fault some (inr h) n size =
      let e : aim_states claim.denied_aim ≡ stated (comparison_lists about.variables) (negation f) =
      claim.denied_stated ∙ ap (λ v. stated (comparison_lists v) (property_of claim.denied)) on.variables ∙ ap (stated (comparison_lists about.variables)) on.is.denied in
      let bound : (l : ℕ) → greatest_count about.cases size.0 (negation f) l ≤ n = λ l. subst (λ j. greatest_count about.cases size.0 (negation f) l ≤ j) (sym size.2) (negation_within cases size.0 f l) in
      let w = question_refused plain (aim_states claim.denied_aim) budget (AsksEmpty about) size.0 size.1 (negation f) (negation_parts f parts) e n bound
      (λ found is a x. empty_few n (pieces_of found) a x) fault (faults.Cover fault) refl some h in
      record { question = w.question; asked = inr w.asked; few = w.few; refuses = w.refuses }

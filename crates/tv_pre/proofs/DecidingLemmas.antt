-- What came of a claim at the start.
use Rattle.std.proofs.Common.{◌≡◌, ℕ, ◌<◌, List, length, false, None, Some, Option, ◌∙◌, refl, sym, ap, subst, ℤ}
use Rattle.std.specs.Prelude.{IfSome}
use Rattle.tv_formula.specs.Properties.{Property}
use Rattle.tv_cases.specs.Comparisons.{comparison_lists}
use Rattle.tv_cases.specs.LinearCases.{CaseSystem}
use Rattle.tv_cert.specs.Statements.{Statement, stated}
use Rattle.tv_known.specs.Cycles.{IsLastRound}
use Rattle.tv_region.specs.Regions.{IsRegion}
use Rattle.tv_farkas.specs.declared.budget.Budget.{Budget}
use Rattle.tv_pre.specs.declared.fault.PreFault.{PreFault}
use Rattle.tv_pre.specs.declared.outcome.Found.{Found}
use Rattle.tv_pre.specs.Built.{IsBuilt, IsPreFault}
use Rattle.tv_pre.specs.Finding.{IsGapOf, IsGapFor, States, IsPartFor, IsFullFor, steps_back, size}
use Rattle.tv_pre.specs.Proving.{IsFoundOf, IsLeft}
use Rattle.tv_pre.specs.declared.gap.Gap.{Gap}
use Rattle.tv_pre.specs.Finding.{first_of}
use Rattle.tv_pre.specs.Full.{HasRows}
use Rattle.tv_pre.specs.KnownStates.{IsKnownFor}
use Rattle.tv_pre.specs.Sized.{IsFewFor}
use Rattle.tv_pre.specs.Starting.{HasNoStart}
use Rattle.tv_pre.proofs.GapLemmas.{gap_in_order}
use Rattle.tv_formula.specs.Formulas.{property_of}
use Rattle.tv_formula.specs.Normal.{negation}
use Rattle.tv_meaning.proofs.Negation.{negation_excludes}
use Rattle.tv_meaning.specs.Meaning.{Holds}
use Rattle.tv_cases.specs.LinearCases.{CaseSteps}
use Rattle.tv_cert.specs.declared.claim.Claim.{Claim}
use Rattle.tv_cert.specs.AimViews.{aim_states}
use Rattle.tv_cert.specs.Claims.{claim_variables}
use Rattle.tv_choice.specs.Leading.{state}
use Rattle.tv_known.specs.Cycles.{IsStateOf}
use Rattle.tv_linear.specs.declared.region.Region.{Region}
use Rattle.tv_region.specs.Regions.{lists_at}
use Rattle.tv_region.specs.StepRegions.{InState}
use Rattle.tv_region.proofs.AlgebraLemmas.{state_in}
use Rattle.tv_region.proofs.MetLemmas.{all_met-all}
use Rattle.tv_region.specs.Met as met
use Rattle.tv_rounds.proofs.InsideLemmas.{out_of_targets}
use Rattle.tv_cases.proofs.ContainsLemmas.{some_passes}

-- the statement of an aim that is handed in is that of the claim
pub states_of : (about : CaseSystem) (n : ℕ) (t : Statement) (f : Property) → t ≡ stated (comparison_lists n) f → n ≡ about.variables → States about t f
states_of about n t f e v = e ∙ ap (λ m. stated (comparison_lists m) f) v

-- what a search says of its answer, whatever the last round is
pub found_of : (about : CaseSystem) (t s : Statement) (found : Found) → t ≡ s → IsRegion about.variables about.locations found.part.region → IsPartFor about t found.part.region found.part.node → ((last : ℕ) → IsLastRound about 8 last → IsBuilt about t (steps_back last t) found.part.region) → found.size ≡ size t → IfSome found.gap (IsGapOf about) → ((last : ℕ) → IsLastRound about 8 last → IfSome found.gap (IsGapFor about last t)) → (found.gap ≡ None → IsFullFor about t found.part.region) → ((last : ℕ) → IsLastRound about 8 last → IsKnownFor about last false t found.part.region) → IsFewFor about t found.part.region → IsFoundOf about s found
found_of about t s found e over part built many gap tells full known few = subst (λ u. IsFoundOf about u found) e (record { over = over; shows = part; built = built; size = many; gap = gap; tells = tells; full = full; known = known; bounded = few })

pub fault_of : (about : CaseSystem) (t s : Statement) (budget : Budget) (fault : PreFault) → t ≡ s → ((last : ℕ) → IsLastRound about 8 last → IsPreFault about t budget (steps_back last t) fault) → (last : ℕ) → IsLastRound about 8 last → IsPreFault about s budget (steps_back last s) fault
fault_of about t s budget fault e h = subst (λ u. (last : ℕ) → IsLastRound about 8 last → IsPreFault about u budget (steps_back last u) fault) e h

-- ---- where the start tells nothing of either side
-- no point of the start lies in the lists, if none of them has one
pub out_of_none : (about : CaseSystem) (region : Region) (xs : List ℤ) → HasNoStart about region.pieces.items → length xs ≡ about.variables → InState region (state about.start xs) → ⊥
out_of_none about region xs none wide m =
    let w = some_passes (met.all_met xs) (lists_at about.start region.pieces.items) (state_in about.start xs region m) in
    none w.0 w.1 xs (record { width = wide; met = all_met-all xs w.0 w.2 })

-- if no gap is known and each comparison has rows, the formula or its negation tells of each state
pub not_left : (about : CaseSystem) (claim : Claim) → claim_variables claim ≡ about.variables → property_of claim.denied ≡ negation (property_of claim.proved) → about.start < about.locations →
    HasRows about.variables (property_of claim.proved) → HasRows about.variables (property_of claim.denied) → IsLeft about claim None None → ⊥
not_left about claim same denies starts rows denied_rows left =
    let f = property_of claim.proved in
    let g = property_of claim.denied in
    let a = left.proof in
    let b = left.disproof in
    let s = state about.start a.values in
    let p : IsStateOf about s = record { location = starts; values = a.outside.point.width } in
    let fails = a.is.full (sym a.same) f (states_of about (claim_variables claim) (aim_states claim.proved_aim) f claim.proved_stated same) rows s p
    (out_of_targets about.start a.found.part.region (lists_at about.start a.found.part.region.pieces.items) refl a.values a.outside.outside) in
    let holds = b.is.full (sym b.same) g (states_of about (claim_variables claim) (aim_states claim.denied_aim) g claim.denied_stated same) denied_rows s p
    (out_of_none about b.found.part.region a.values b.outside a.outside.point.width) in
    negation_excludes (CaseSteps about) g s holds (subst (λ h. Holds (CaseSteps about) h s) (sym denies) fails)

-- the first gap of the two says what is so of the program
pub left_gap : (about : CaseSystem) (claim : Claim) (first second : Option Gap) (gap : Gap) → IsLeft about claim first second → Some gap ≡ first_of first second → IsGapOf about gap
left_gap about claim first second gap left e =
    let a = subst (λ o. IfSome o (IsGapOf about)) (sym left.proof.same) left.proof.is.gap in
    let b = subst (λ o. IfSome o (IsGapOf about)) (sym left.disproof.same) left.disproof.is.gap in
    subst (λ o. IfSome o (IsGapOf about)) (sym e) (gap_in_order (IsGapOf about) first second a (λ n. b))

pub left_none : (about : CaseSystem) (claim : Claim) (first second : Option Gap) → None ≡ first_of first second → IsLeft about claim first second → IsLeft about claim None None
left_none about claim None None e left = left
left_none about claim None (Some gap) e left = absurd cc
left_none about claim (Some gap) second e left = absurd cc

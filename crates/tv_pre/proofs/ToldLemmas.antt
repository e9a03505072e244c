-- Where no gap is reported.
use Rattle.std.proofs.Common.{◌≡◌, inl, inr, ℕ, List, refl, sym, ap, ◌∙◌, subst}
use Rattle.std.specs.Prelude.{All, Option, None, Some, IfSome}
use Rattle.tv_formula.specs.Formulas.{property_of}
use Rattle.tv_formula.specs.Normal.{negation, normal}
use Rattle.tv_formula.specs.Properties.{Property}
use Rattle.tv_farkas.specs.declared.budget.Budget.{Budget}
use Rattle.tv_linear.specs.declared.region.Region.{Region}
use Rattle.tv_cases.specs.LinearCases.{CaseSystem, IsCase}
use Rattle.tv_cases.specs.Comparisons.{comparison_lists}
use Rattle.tv_cert.specs.declared.claim.Claim.{Claim}
use Rattle.tv_cert.specs.declared.node.Node.{Node}
use Rattle.tv_cert.specs.AimViews.{aim_states}
use Rattle.tv_cert.specs.Claims.{claim_variables}
use Rattle.tv_cert.specs.Statements.{Statement, stated}
use Rattle.tv_known.specs.Cycles.{HasCycle, IsLastRound}
use Rattle.tv_known.specs.Rounds.{Goes}
use Rattle.tv_known.specs.Laws.{Decides}
use Rattle.tv_known.specs.Subformulas.{subformulas}
use Rattle.tv_region.specs.Regions.{IsRegion}
use Rattle.tv_pre.specs.declared.gap.Gap.{Gap}
use Rattle.tv_pre.specs.declared.gap.Gap.TheVariants.{Inexact, Open}
use Rattle.tv_pre.specs.Finding.{IsGapFor, IsOpenAt, AreAtomsOfDifferences, IsTameStatement, IsPlainProgram, HasNoGapIfPlain, IsPartFor, IsFullFor, IsExactFor}
use Rattle.tv_pre.specs.Full.{HasRows}
use Rattle.tv_pre.specs.Proving.{IsTameClaim}
use Rattle.tv_pre.specs.Told.{AreSettled, IsClaimOn, SettledIsTold, PlainIsTold}
use Rattle.tv_pre.proofs.ContraryAtoms.{denied_atoms}
use Rattle.tv_pre.proofs.NegationLemmas.{denied_stands}
use Rattle.tv_pre.proofs.StepsTold.{tame_goes}
use Rattle.tv_pre.proofs.ExactLemmas.{part_exact}
use Rattle.tv_pre.proofs.SettledRounds.{none_unsettled}
use Rattle.tv_linear.proofs.ListLaws.{contains_at}

-- ---- programs without cycles and draws
module _ (about : CaseSystem) (cases : All (IsCase about.variables about.locations) about.cases) where
  none_open : (HasCycle about → ⊥) → (fs : List Property) → (place : ℕ) → IsOpenAt about about.locations fs place → ⊥
  none_open none fs place h = none_unsettled about cases h.part none h.unsettled

  plain_last : IsPlainProgram about → (last : ℕ) → IsLastRound about 8 last → last ≡ about.locations
  plain_last plain last (inl h) = absurd (plain.acyclic h.0)
  plain_last plain last (inr h) = h.1

  pub no_gap : (last : ℕ) → IsLastRound about 8 last → (s : Statement) (gap : Option Gap) → IfSome gap (IsGapFor about last s) → HasNoGapIfPlain about s gap
  no_gap last l s None h plain f e w = refl
  no_gap last l s (Some Inexact) h plain f e w = absurd (h.wild (inl plain.draws))
  no_gap last l s (Some (Open place)) h plain f e w = absurd (none_open plain.acyclic (subformulas f) place (subst (λ k. IsOpenAt about k (subformulas f) place) (plain_last plain last l) (h f e w)))

  pub plain_told : (claim : Claim) (budget : Budget) (gap : Gap) → PlainIsTold about claim budget gap
  plain_told claim budget Inexact plain h = (h.1.tells about.locations (inr (plain.acyclic, refl))).0 (inl plain.draws)
  plain_told claim budget (Open place) plain h = elim (h.1.tells about.locations (inr (plain.acyclic, refl))).unsettled [
    | inl o ↦ none_open plain.acyclic (subformulas (property_of claim.proved)) place o
    | inr o ↦ none_open plain.acyclic (subformulas (property_of claim.denied)) place o
  ]

-- ---- tame programs
-- the negation is as tame as the normal form
pub tame_claim : (about : CaseSystem) (claim : Claim) (f : Property) → IsClaimOn about claim f → HasRows about.variables (property_of claim.proved) → IsTameStatement about (aim_states claim.proved_aim) → IsTameClaim about claim
tame_claim about claim f on rows (inl plain) = inl plain
tame_claim about claim f on rows (inr d) =
    let n = claim_variables claim in
    let have : HasRows n (normal f) = subst (HasRows n) on.is.proved (subst (λ k. HasRows k (property_of claim.proved)) (sym on.variables) rows) in
    let first : aim_states claim.proved_aim ≡ stated (comparison_lists n) (normal f) = claim.proved_stated ∙ ap (stated (comparison_lists n)) on.is.proved in
    let second : aim_states claim.denied_aim ≡ stated (comparison_lists n) (negation f) = claim.denied_stated ∙ ap (stated (comparison_lists n)) on.is.denied in
    inr (d.0, d.1, subst AreAtomsOfDifferences (sym second) (denied_atoms n f have (subst AreAtomsOfDifferences first d.1)))

none_settled : (about : CaseSystem) (last : ℕ) (fs : List Property) → AreSettled about last fs → (place : ℕ) → IsOpenAt about last fs place → ⊥
none_settled about last fs h place o = h o.part (contains_at fs place o.part o.there) o.unsettled

-- nor does it settle what the negation has in place of one of these
none_denied : (about : CaseSystem) (last : ℕ) (f : Property) → AreSettled about last (subformulas (normal f)) → Decides about (Goes about) → (place : ℕ) → IsOpenAt about last (subformulas (negation f)) place → ⊥
none_denied about last f h goes place o =
    h (negation o.part) (denied_stands f o.part (contains_at (subformulas (negation f)) place o.part o.there)) (o.denied goes)

pub settled_told : (about : CaseSystem) (claim : Claim) (f : Property) (budget : Budget) (gap : Gap) → SettledIsTold about claim f budget gap
settled_told about claim f budget Inexact on tame last l settled h = (h.1.tells last l).0 (tame_claim about claim f on h.1.have_rows.0 tame)
settled_told about claim f budget (Open place) on tame last l settled h = elim (h.1.tells last l).unsettled [
  | inl o ↦ none_settled about last (subformulas (normal f)) settled place (subst (λ g. IsOpenAt about last (subformulas g) place) on.is.proved o)
  | inr o ↦ none_denied about last f settled (tame_goes about (aim_states claim.proved_aim) tame) place (subst (λ g. IsOpenAt about last (subformulas g) place) on.is.denied o)
]

-- ---- exact regions
pub exact_for : (about : CaseSystem) (s : Statement) (region : Region) (node : Node) → IsRegion about.variables about.locations region → IsPartFor about s region node → IsFullFor about s region → IsExactFor about s region
exact_for about s region node over part full f e w = part_exact about f region node over (part f e) (full f e w)

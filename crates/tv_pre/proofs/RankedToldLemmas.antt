-- Where no gap is reported of a fixpoint that is to come to its end on every run of a ranked program.
use Rattle.std.proofs.Common.{◌≡◌, inl, inr, ℕ, ◌++◌, refl, sym, ap, ◌∙◌, subst, true}
use Rattle.std.specs.Prelude.{All, Contains, Option, None, Some, IfSome}
use Rattle.std.proofs.lemmas.List.Elements.{Contains-append_cases}
use Rattle.tv_program.specs.Steps.{State}
use Rattle.tv_formula.specs.Formulas.{property_of}
use Rattle.tv_formula.specs.Normal.{normal}
use Rattle.tv_formula.specs.Properties.{Property, fix}
use Rattle.tv_formula.specs.declared.tree.Path.TheVariants.{Every}
use Rattle.tv_formula.specs.declared.tree.Shape.{Shape}
use Rattle.tv_formula.specs.declared.tree.Shape.TheVariants.{Until, Weak, Release, Strong}
use Rattle.tv_farkas.specs.declared.budget.Budget.{Budget}
use Rattle.tv_meaning.specs.Meaning.{Holds}
use Rattle.tv_meaning.proofs.Negation.{negation_excludes}
use Rattle.tv_cases.specs.Comparisons.{comparison_lists}
use Rattle.tv_cases.specs.LinearCases.{CaseSystem, CaseSteps, IsCase, AreCases}
use Rattle.tv_cases.proofs.ContainsLemmas.{Contains-cases}
use Rattle.tv_cert.specs.declared.claim.Claim.{Claim}
use Rattle.tv_cert.specs.AimViews.{aim_states}
use Rattle.tv_cert.specs.Claims.{claim_variables}
use Rattle.tv_cert.specs.Statements.{stated}
use Rattle.tv_choice.specs.Leading.{state}
use Rattle.tv_known.specs.Cycles.{IsLastRound, IsStateOf}
use Rattle.tv_known.specs.Laws.{MustReach, GoesOn, IsRankedUntil}
use Rattle.tv_known.specs.Ranking.{HasLexicographicRanking}
use Rattle.tv_known.specs.Rounds.{must_end}
use Rattle.tv_known.specs.Subformulas.{subformulas, IsUnsettled}
use Rattle.tv_known.proofs.KnownHolds.{fix_known}
use Rattle.tv_region.specs.Regions.{lists_at}
use Rattle.tv_region.specs.StepRegions.{HasNoDraws}
use Rattle.tv_rounds.proofs.InsideLemmas.{out_of_targets}
use Rattle.tv_pre.specs.declared.gap.Gap.{Gap}
use Rattle.tv_pre.specs.declared.gap.Gap.TheVariants.{Inexact, Open}
use Rattle.tv_pre.specs.Finding.{IsGapFor, IsOpenAt}
use Rattle.tv_pre.specs.Full.{HasRows}
use Rattle.tv_pre.specs.Proving.{IsProofLeft}
use Rattle.tv_pre.specs.Told.{IsClaimOn, RankedUntilIsTold}
use Rattle.tv_pre.specs.Unserved.{IsUnserved}
use Rattle.tv_pre.proofs.DecidingLemmas.{states_of}
use Rattle.tv_pre.proofs.LocalLemmas.{local_now}
use Rattle.tv_linear.proofs.ListLaws.{contains_at}

-- ---- it holds everywhere
comes : (shape : Shape) → MustReach shape → must_end shape ≡ true
comes Until must = refl
comes Strong must = refl
comes Weak must = absurd must
comes Release must = absurd must

all_hold : (about : CaseSystem) → All (IsCase about.variables about.locations) about.cases → (shape : Shape) → MustReach shape → (f g : Property) → HasLexicographicRanking about → GoesOn about shape f g → (s : State) → IsStateOf about s → Holds (CaseSteps about) (fix Every shape f g) s
all_hold about cases Until must f g ranking goes s is =
    fix_known about cases 0 (λ t. Holds (CaseSteps about) f t) (λ t. Holds (CaseSteps about) g t) (λ t. Holds (CaseSteps about) f t) (λ t. Holds (CaseSteps about) g t) (λ t i k. k) (λ t i k. k) Every Until s is (inr (record { ranking = ranking; goes = goes }))
all_hold about cases Strong must f g ranking goes s is =
    fix_known about cases 0 (λ t. Holds (CaseSteps about) f t) (λ t. Holds (CaseSteps about) g t) (λ t. Holds (CaseSteps about) f t) (λ t. Holds (CaseSteps about) g t) (λ t i k. k) (λ t i k. k) Every Strong s is (inr (record { ranking = ranking; goes = goes }))
all_hold about cases Weak must f g ranking goes s is = absurd must
all_hold about cases Release must f g ranking goes s is = absurd must

-- ---- its gaps
module _ (about : CaseSystem) (limits : AreCases about) (claim : Claim) (f : Property) (on : IsClaimOn about claim f) (plain : HasNoDraws about) (is : IsRankedUntil about f) (last : ℕ) (round : IsLastRound about 8 last) (have : HasRows about.variables (property_of claim.proved)) where
  rows : HasRows about.variables (normal f)
  rows = subst (HasRows about.variables) on.is.proved have

  states : aim_states claim.proved_aim ≡ stated (comparison_lists about.variables) (normal f)
  states = states_of about (claim_variables claim) (aim_states claim.proved_aim) (normal f) (claim.proved_stated ∙ ap (stated (comparison_lists (claim_variables claim))) on.is.proved) on.variables

  served : IsUnserved about (fix Every is.shape is.left is.right) → ⊥
  served u = elim (u (comes is.shape is.must)) [
    | inl lacks ↦ lacks is.ranking
    | inr some ↦ (let w = some (inl plain) in elim (is.goes w.state w.is) [ inl e ↦ w.not_end e | inr g ↦ w.not_way g.0 g.1 ])
  ]

  own_or_later : (part : Property) → Contains (subformulas (fix Every is.shape is.left is.right)) part → IsUnserved about part → IsUnsettled about last part → ⊥
  own_or_later part m u later = elim (Contains-cases (fix Every is.shape is.left is.right) part (subformulas is.left ++ subformulas is.right) m) [
    | inl e ↦ served (subst (IsUnserved about) (sym e) u)
    | inr k ↦ elim (Contains-append_cases (subformulas is.left) (subformulas is.right) part k) [
      | inl a ↦ local_now about last is.left is.left_local part a later
      | inr b ↦ local_now about last is.right is.right_local part b later
    ]
  ]

  open_place : (place : ℕ) → IsOpenAt about last (subformulas (fix Every is.shape is.left is.right)) place → ⊥
  open_place place o = own_or_later o.part (contains_at (subformulas (fix Every is.shape is.left is.right)) place o.part o.there) o.unserved o.unsettled

  by_gap : (gap : Gap) → IsGapFor about last (aim_states claim.proved_aim) gap → ⊥
  by_gap Inexact h = h.wild (inl plain)
  by_gap (Open place) h = open_place place (subst (λ g. IsOpenAt about last (subformulas g) place) is.same (h (normal f) states rows))

  holds_at : (s : State) → IsStateOf about s → Holds (CaseSteps about) (normal f) s
  holds_at s p = subst (λ g. Holds (CaseSteps about) g s) (sym is.same) (all_hold about limits.cases is.shape is.must is.left is.right is.ranking is.goes s p)

  pub told_first : (first : Option Gap) → IsProofLeft about (aim_states claim.proved_aim) first → ⊥
  told_first None left =
      let s = state about.start left.values in
      let p : IsStateOf about s = record { location = limits.starts; values = left.outside.point.width } in
      let fails = left.is.full (sym left.same) (normal f) states rows s p
      (out_of_targets about.start left.found.part.region (lists_at about.start left.found.part.region.pieces.items) refl left.values left.outside.outside) in
      negation_excludes (CaseSteps about) (normal f) s fails (holds_at s p)
  told_first (Some gap) left = by_gap gap (subst (λ o. IfSome o (IsGapFor about last (aim_states claim.proved_aim))) (sym left.same) (left.is.tells last round))

pub ranked_told : (about : CaseSystem) → AreCases about → (claim : Claim) (f : Property) (budget : Budget) (gap : Gap) → RankedUntilIsTold about claim f budget gap
ranked_told about limits claim f budget gap on plain is last round h = told_first about limits claim f on plain is last round h.1.have_rows.0 h.1.first h.1.left.proof

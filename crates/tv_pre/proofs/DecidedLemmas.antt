-- Where the rounds tell of the start, no gap is reported.
use Rattle.std.proofs.Common.{◌≡◌, inl, inr, ℕ, ◌<◌, refl, sym, subst, Option}
use Rattle.tv_formula.specs.Formulas.{property_of}
use Rattle.tv_formula.specs.Properties.{Property}
use Rattle.tv_program.specs.Steps.{State}
use Rattle.tv_farkas.specs.declared.budget.Budget.{Budget}
use Rattle.tv_linear.specs.Regions.{InRegion}
use Rattle.tv_cases.specs.LinearCases.{CaseSystem, AreCases}
use Rattle.tv_cert.specs.declared.claim.Claim.{Claim}
use Rattle.tv_cert.specs.AimViews.{aim_states}
use Rattle.tv_cert.specs.Claims.{claim_variables}
use Rattle.tv_choice.specs.Leading.{state}
use Rattle.tv_known.specs.Cycles.{IsLastRound, IsInitialAt}
use Rattle.tv_known.specs.Known.{Known, IsDecided}
use Rattle.tv_region.specs.Regions.{lists_at}
use Rattle.tv_rounds.proofs.InsideLemmas.{out_of_targets}
use Rattle.tv_pre.specs.declared.gap.Gap.{Gap}
use Rattle.tv_pre.specs.Finding.{IsTameStatement}
use Rattle.tv_pre.specs.Full.{HasRows}
use Rattle.tv_pre.specs.Proving.{IsProofLeft, IsDisproofLeft, IsLeft, IsTameClaim, ClaimHasRows}
use Rattle.tv_pre.specs.Told.{IsClaimOn, DecidedIsTold}
use Rattle.tv_pre.proofs.DecidingLemmas.{states_of, out_of_none}
use Rattle.tv_pre.proofs.ToldLemmas.{tame_claim}

module _ (about : CaseSystem) (claim : Claim) (same : claim_variables claim ≡ about.variables) (starts : about.start < about.locations) (last : ℕ) (is : IsLastRound about 8 last) where
  -- the values at the start that were left are in the region, where the rounds tell of each state at the start
  no_proof_left : IsTameStatement about (aim_states claim.proved_aim) → HasRows about.variables (property_of claim.proved) → ((s : State) → IsInitialAt about s → Known about last (property_of claim.proved) s) → (gap : Option Gap) → IsProofLeft about (aim_states claim.proved_aim) gap → ⊥
  no_proof_left tame rows known gap left =
      let s = state about.start left.values in
      let wide = left.outside.point.width in
      let set = left.is.known last is tame (property_of claim.proved) (states_of about (claim_variables claim) (aim_states claim.proved_aim) (property_of claim.proved) claim.proved_stated same) rows in
      out_of_targets about.start left.found.part.region (lists_at about.start left.found.part.region.pieces.items) refl left.values left.outside.outside
      (set.all s (record { location = starts; values = wide }) (known s (record { place = refl; counted = wide })))

  -- a state at the start that the rounds tell of is in the region, which has none there
  no_disproof_left : IsTameStatement about (aim_states claim.denied_aim) → HasRows about.variables (property_of claim.denied) → (s : State) → IsInitialAt about s → Known about last (property_of claim.denied) s → (gap : Option Gap) → IsDisproofLeft about (aim_states claim.denied_aim) gap → ⊥
  no_disproof_left tame rows s initial known gap left =
      let set = left.is.known last is tame (property_of claim.denied) (states_of about (claim_variables claim) (aim_states claim.denied_aim) (property_of claim.denied) claim.denied_stated same) rows in
      let region = left.found.part.region in
      let inside = set.all s (record { location = subst (λ l. l < about.locations) (sym initial.place) starts; values = initial.counted }) known in
      out_of_none about region s.values left.outside initial.counted (subst (λ l. InRegion l s.values region) initial.place inside)

-- neither side is left where the rounds tell of the start
pub decided_left : (about : CaseSystem) → about.start < about.locations → (claim : Claim) (f : Property) → IsClaimOn about claim f → IsTameClaim about claim → IsDecided about f → (last : ℕ) → IsLastRound about 8 last → ClaimHasRows about claim → (first second : Option Gap) → IsLeft about claim first second → ⊥
decided_left about starts claim f on tame decided last l rows first second left =
    let proved : IsTameStatement about (aim_states claim.proved_aim) = elim tame [ inl plain ↦ inl plain | inr d ↦ inr (d.0, d.1) ] in
    let denied : IsTameStatement about (aim_states claim.denied_aim) = elim tame [ inl plain ↦ inl plain | inr d ↦ inr (d.0, d.2) ] in
    elim decided [
      | inl all ↦ no_proof_left about claim on.variables starts last l proved rows.0 (λ s i. subst (λ (g : Property). Known about last g s) (sym on.is.proved) (all s i last l)) first left.proof
      | inr some ↦ no_disproof_left about claim on.variables starts last l denied rows.1 some.0 some.1 (subst (λ (g : Property). Known about last g some.0) (sym on.is.denied) (some.2 last l)) second left.disproof
    ]

pub decided_told : (about : CaseSystem) → AreCases about → (claim : Claim) (f : Property) (budget : Budget) (gap : Gap) → DecidedIsTold about claim f budget gap
decided_told about limits claim f budget gap on tame decided last l h =
    decided_left about limits.starts claim f on (tame_claim about claim f on h.1.have_rows.0 tame) decided last l h.1.have_rows h.1.first h.1.second h.1.left

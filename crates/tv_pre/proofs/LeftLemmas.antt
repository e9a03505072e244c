-- What the gap that is reported says of a claim.
use Rattle.std.proofs.Common.{◌≡◌, ◌⊎◌, inl, inr, ℕ, ◌<◌, Some, Option, sym, ap, ◌∙◌, subst, true}
use Rattle.std.specs.Prelude.{IfSome}
use Rattle.tv_formula.specs.Properties.{Property}
use Rattle.tv_formula.specs.Formulas.{property_of}
use Rattle.tv_formula.specs.Forms.{is_local}
use Rattle.tv_formula.specs.Normal.{normal, negation}
use Rattle.tv_linear.proofs.ListLaws.{contains_at}
use Rattle.tv_cases.specs.Comparisons.{comparison_lists}
use Rattle.tv_cases.specs.LinearCases.{CaseSystem}
use Rattle.tv_cert.specs.declared.claim.Claim.{Claim}
use Rattle.tv_cert.specs.AimViews.{aim_states}
use Rattle.tv_cert.specs.Claims.{claim_variables}
use Rattle.tv_cert.specs.Statements.{Statement, stated}
use Rattle.tv_known.specs.Cycles.{IsLastRound}
use Rattle.tv_known.specs.Subformulas.{subformulas}
use Rattle.tv_pre.specs.declared.gap.Gap.{Gap}
use Rattle.tv_pre.specs.declared.gap.Gap.TheVariants.{Inexact, Open}
use Rattle.tv_pre.specs.Finding.{IsGapOf, IsGapFor, IsOpenAt, first_of}
use Rattle.tv_pre.specs.Proving.{IsLeft, ClaimHasRows, IsTameClaim, IsMovingClaim, IsGapOfClaim, IsReported, IsLeftBy}
use Rattle.tv_pre.specs.Tame.{IsLocalStatement}
use Rattle.tv_pre.proofs.DecidedLemmas.{decided_left}
use Rattle.tv_pre.proofs.DecidingLemmas.{states_of, left_gap}
use Rattle.tv_pre.proofs.GapLemmas.{gap_in_order, gap_weaker}
use Rattle.tv_pre.proofs.LocalLemmas.{normal_local, negation_local, stated_local, local_now}

module _ (about : CaseSystem) (claim : Claim) (last : ℕ) (same : claim_variables claim ≡ about.variables) (rows : ClaimHasRows about claim) where
  -- what the gap of a side says, whether the program is tame for the claim or not
  abbrev Says : Gap → Type 0
  Says Inexact = (IsTameClaim about claim → ⊥) × IsMovingClaim claim
  Says (Open place) =
      IsOpenAt about last (subformulas (property_of claim.proved)) place ⊎ IsOpenAt about last (subformulas (property_of claim.denied)) place

  local_side : (s : Statement) (f g : Property) → s ≡ stated (comparison_lists (claim_variables claim)) f → f ≡ g → is_local g ≡ true → IsLocalStatement s
  local_side s f g e is local =
      subst IsLocalStatement (sym (e ∙ ap (stated (comparison_lists (claim_variables claim))) is)) (stated_local (claim_variables claim) g local)

  proof_says : (gap : Gap) → IsGapFor about last (aim_states claim.proved_aim) gap → Says gap
  proof_says Inexact h = (
    λ tame. h.wild (elim tame [ inl plain ↦ inl plain | inr d ↦ inr (d.0, d.1) ]),
    λ f is local. h.moves (local_side (aim_states claim.proved_aim) (property_of claim.proved) (normal f) claim.proved_stated is.proved (normal_local f local)),
  )
  proof_says (Open place) h =
      let f = property_of claim.proved in
      inl (h f (states_of about (claim_variables claim) (aim_states claim.proved_aim) f claim.proved_stated same) rows.0)

  disproof_says : (gap : Gap) → IsGapFor about last (aim_states claim.denied_aim) gap → Says gap
  disproof_says Inexact h = (
    λ tame. h.wild (elim tame [ inl plain ↦ inl plain | inr d ↦ inr (d.0, d.2) ]),
    λ f is local. h.moves (local_side (aim_states claim.denied_aim) (property_of claim.denied) (negation f) claim.denied_stated is.denied (negation_local f local)),
  )
  disproof_says (Open place) h =
      let f = property_of claim.denied in
      inr (h f (states_of about (claim_variables claim) (aim_states claim.denied_aim) f claim.denied_stated same) rows.1)

  first_says : IsLastRound about 8 last → (first second : Option Gap) (gap : Gap) → IsLeft about claim first second → Some gap ≡ first_of first second → Says gap
  first_says l first second gap left e =
      let a = subst (λ o. IfSome o (IsGapFor about last (aim_states claim.proved_aim))) (sym left.proof.same) (left.proof.is.tells last l) in
      let b = subst (λ o. IfSome o (IsGapFor about last (aim_states claim.denied_aim))) (sym left.disproof.same) (left.disproof.is.tells last l) in
      subst (λ o. IfSome o Says) (sym e)
      (gap_in_order Says first second (gap_weaker (IsGapFor about last (aim_states claim.proved_aim)) Says first proof_says a)
      (λ n. gap_weaker (IsGapFor about last (aim_states claim.denied_aim)) Says second disproof_says b))

  -- a gap is known only of a claim that is not of one state
  no_local : (f g : Property) → f ≡ g → is_local g ≡ true → (place : ℕ) → IsOpenAt about last (subformulas f) place → ⊥
  no_local f g is local place o =
      local_now about last f (subst (λ h. is_local h ≡ true) (sym is) local) o.part (contains_at (subformulas f) place o.part o.there) o.unsettled

  moving : (gap : Gap) → Says gap → IsMovingClaim claim
  moving Inexact h = h.1
  moving (Open place) h = λ f is local. elim h [
    | inl o ↦ no_local (property_of claim.proved) (normal f) is.proved (normal_local f local) place o
    | inr o ↦ no_local (property_of claim.denied) (negation f) is.denied (negation_local f local) place o
  ]

  module _ (starts : about.start < about.locations) (l : IsLastRound about 8 last) (first second : Option Gap) (left : IsLeft about claim first second) where
    tamely : (gap : Gap) → Says gap → IsTameClaim about claim → IsGapOfClaim about claim last gap
    tamely Inexact h tame = h
    tamely (Open place) h tame = record {
      tame = tame;
      undecided = λ f is decided. decided_left about starts claim f (record { is = is; variables = same }) tame decided last l rows first second left;
      unsettled = h;
    }

    pub reported_says : (gap reported : Gap) → Says gap → IsReported about claim gap reported → IsGapOfClaim about claim last reported
    reported_says gap reported h (inl tame) = subst (IsGapOfClaim about claim last) (sym tame.1) (tamely gap h tame.0)
    reported_says gap reported h (inr wild) = subst (IsGapOfClaim about claim last) (sym wild.1) (wild.0, moving gap h)

pub left_by : (about : CaseSystem) (claim : Claim) → claim_variables claim ≡ about.variables → about.start < about.locations → ClaimHasRows about claim → (first second : Option Gap) (gap reported : Gap) →
    IsLeft about claim first second → Some gap ≡ first_of first second → IsReported about claim gap reported → IsLeftBy about claim reported
left_by about claim same starts rows first second gap reported left e is = record {
  first = first;
  second = second;
  left = left;
  known = gap;
  is_first = e;
  reported = is;
  have_rows = rows;
  tells = λ last l. reported_says about claim last same rows starts l first second left gap reported (first_says about claim last same rows l first second gap left e) is;
}

pub reported_gap : (about : CaseSystem) (claim : Claim) (first second : Option Gap) (gap reported : Gap) →
    IsLeft about claim first second → Some gap ≡ first_of first second → IsReported about claim gap reported → IsGapOf about reported
reported_gap about claim first second gap reported left e (inl tame) = subst (IsGapOf about) (sym tame.1) (left_gap about claim first second gap left e)
reported_gap about claim first second gap reported left e (inr wild) = subst (IsGapOf about) (sym wild.1) (λ plain. wild.0 (inl plain))

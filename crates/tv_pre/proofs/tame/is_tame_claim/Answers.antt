use Rattle.std.proofs.Common.{inl, inr, ◌∙◌, sym, subst}
use Rattle.tv_cert.specs.AimViews.{aim_states}
use Rattle.tv_pre.specs.Tame.{IsOfDifferencesIn}
use Rattle.tv_pre.proofs.DifferenceLemmas.{not_false}
use Rattle.tv_pre.proofs.TameAims.{differ_in, in_differ, untold}
use Rattle.tv_pre.proofs.tame.is_tame_claim.Goals as goal

pub returns-then-not-are_cases_of_differences-clause-wild : goal.returns-then-not-are_cases_of_differences-clause-wild
returns-then-not-are_cases_of_differences-clause-wild c = λ f tame. elim tame [
  | inl plain ↦ untold (not_false _ (c.has_no_draws.ensures.1 plain) c.if-has_no_draws.false)
  | inr d ↦ untold (not_false _ (c.are_cases_of_differences.ensures.all d.0) c.if-not-are_cases_of_differences.true)
]

pub returns-then-not-is_aim_of_differences-clause-wild : goal.returns-then-not-is_aim_of_differences-clause-wild
returns-then-not-is_aim_of_differences-clause-wild c = λ f tame. elim tame [
  | inl plain ↦ untold (not_false _ (c.has_no_draws.ensures.1 plain) c.if-has_no_draws.false)
  | inr d ↦ (
      let claim = c.args.claim.now in
      let same = c.proved_aim.ensures ∙ sym claim.proved_stated in
      let inside = subst IsOfDifferencesIn (sym same) (in_differ (aim_states claim.proved_aim) d.1) in
      untold (not_false _ (c.is_aim_of_differences.ensures.all inside) c.if-not-is_aim_of_differences.true))
]

pub returns-clause-tame : goal.returns-clause-tame
returns-clause-tame c = λ t.
    let claim = c.args.claim.now in
    let first = c.proved_aim.ensures ∙ sym claim.proved_stated in
    let second = c.denied_aim.ensures ∙ sym claim.denied_stated in
    inr (
      c.are_cases_of_differences.ensures.found c.if-not-are_cases_of_differences.false,
      differ_in (aim_states claim.proved_aim) (subst IsOfDifferencesIn first (c.is_aim_of_differences.ensures.found c.if-not-is_aim_of_differences.false)),
      differ_in (aim_states claim.denied_aim) (subst IsOfDifferencesIn second (c.is_aim_of_differences-2.ensures.found t)),
    )

pub returns-clause-wild : goal.returns-clause-wild
returns-clause-wild c = λ f tame. elim tame [
  | inl plain ↦ untold (not_false _ (c.has_no_draws.ensures.1 plain) c.if-has_no_draws.false)
  | inr d ↦ (
      let claim = c.args.claim.now in
      let same = c.denied_aim.ensures ∙ sym claim.denied_stated in
      let inside = subst IsOfDifferencesIn (sym same) (in_differ (aim_states claim.denied_aim) d.2) in
      untold (not_false _ (c.is_aim_of_differences-2.ensures.all inside) f))
]

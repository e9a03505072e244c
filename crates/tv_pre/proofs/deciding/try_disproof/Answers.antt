use Rattle.std.proofs.Common.{◌≡◌, ◌∙◌, refl, sym, subst}
use Rattle.std.specs.Prelude.{MatchOption}
use Rattle.tv_formula.specs.Formulas.{property_of}
use Rattle.tv_cases.specs.Systems.{cases_of}
use Rattle.tv_cert.specs.AimViews.{aim_states}
use Rattle.tv_pre.specs.declared.fault.PreFault.TheVariants.{Memory}
use Rattle.tv_pre.specs.Questions.{IsRefusal}
use Rattle.tv_pre.specs.Starting.{HasNoStart, IsInside, AsksEmpty}
use Rattle.tv_pre.specs.Counted.{IsCountedFor}
use Rattle.tv_pre.specs.Proving.{of_formula, of_start}
use Rattle.tv_pre.proofs.DecidingLemmas.{states_of, found_of, fault_of}
use Rattle.tv_pre.proofs.StartLemmas.{inside_of}
use Rattle.tv_pre.proofs.deciding.try_disproof.Goals as goal

pub returns-in-Err-clause-refused : goal.returns-in-Err-clause-refused
returns-in-Err-clause-refused c =
    let about = cases_of c.args.setting.now.about.now in
    let t = aim_states c.denied_aim.result.now in
    let s = aim_states c.args.claim.now.denied_aim in
    let e : t ≡ s = c.denied_aim.ensures ∙ sym c.args.claim.now.denied_stated in
    of_formula c.in-Err.fault (fault_of about t s c.args.setting.now.budget.now c.in-Err.fault e c.in-Err.ensures.refused) (λ last is. subst (λ u. IsCountedFor about c.args.setting.now.budget.now last u c.in-Err.fault) e (c.in-Err.ensures.counted last is))

pub returns-in-Err-first_inside-clause-refused : goal.returns-in-Err-first_inside-clause-refused
returns-in-Err-first_inside-clause-refused c =
    let about = cases_of c.args.setting.now.about.now in
    let t = aim_states c.denied_aim.result.now in
    let s = aim_states c.args.claim.now.denied_aim in
    let e : t ≡ s = c.denied_aim.ensures ∙ sym c.args.claim.now.denied_stated in
    let o = c.in-Ok.ensures in
    of_start c.in-Ok.found c.in-Err-first_inside.fault (found_of about t s c.in-Ok.found e o.region o.part o.built o.size o.gap o.tells o.full o.known o.bounded)
    (subst (λ qs. IsRefusal about c.args.setting.now.budget.now (AsksEmpty about qs) c.in-Err-first_inside.fault) c.deref.ensures.value c.in-Err-first_inside.ensures.refusals)

pub returns-in-Ok-None-clause-tried : goal.returns-in-Ok-None-clause-tried
returns-in-Ok-None-clause-tried c =
    let about = cases_of c.args.setting.now.about.now in
    let t = aim_states c.denied_aim.result.now in
    let s = aim_states c.args.claim.now.denied_aim in
    let e : t ≡ s = c.denied_aim.ensures ∙ sym c.args.claim.now.denied_stated in
    let o = c.in-Ok.ensures in
    let pieces = c.deref.result.now in
    record {
      found = c.in-Ok.found;
      is = found_of about t s c.in-Ok.found e o.region o.part o.built o.size o.gap o.tells o.full o.known o.bounded;
      same = refl;
      outside = subst (HasNoStart about) c.deref.ensures.value (subst (λ r. MatchOption r (HasNoStart about pieces) (IsInside about pieces)) c.in-Ok-None.field-0-is c.in-Ok-None.ensures.answer);
    }

pub disproved_certificate-requires-clause-inside : goal.disproved_certificate-requires-clause-inside
disproved_certificate-requires-clause-inside c =
    let about = cases_of c.args.setting.now.about.now in
    let claim = c.args.claim.now in
    let f = property_of claim.denied in
    let found = c.in-Ok.found in
    let part = c.in-Ok.ensures.part f (states_of about _ (aim_states c.denied_aim.result.now) f c.denied_aim.ensures c.requires.variables) in
    let pieces = c.deref.result.now in
    let h = subst (λ r. MatchOption r (HasNoStart about pieces) (IsInside about pieces)) c.in-Ok-Some.field-0-is c.in-Ok-Some.ensures.answer in
    inside_of about found.part.region.pieces.items _ c.in-Ok-Some.field-0-0 part.pieces (subst (λ qs. IsInside about qs c.in-Ok-Some.field-0-0) c.deref.ensures.value h)

pub returns-in-Err-disproved_certificate-clause-refused : goal.returns-in-Err-disproved_certificate-clause-refused
returns-in-Err-disproved_certificate-clause-refused c = of_formula Memory (λ last h. tt) (λ most o plain last is f parts e. tt)

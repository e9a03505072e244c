use Rattle.std.proofs.Common.{◌≡◌, ◌∙◌, refl, sym, subst}
use Rattle.tv_formula.specs.Formulas.{property_of}
use Rattle.tv_formula.specs.Limits.{IsFormula}
use Rattle.tv_cases.specs.Systems.{cases_of}
use Rattle.tv_cert.specs.AimViews.{aim_states}
use Rattle.tv_pre.specs.declared.fault.PreFault.TheVariants.{Memory}
use Rattle.tv_pre.specs.Starting.{StartAnswer}
use Rattle.tv_pre.specs.Counted.{IsCountedFor}
use Rattle.tv_pre.specs.Proving.{of_formula, of_start}
use Rattle.tv_pre.proofs.DecidingLemmas.{states_of, found_of, fault_of}
use Rattle.tv_pre.proofs.StartLemmas.{root_of, few_operators}
use Rattle.tv_pre.proofs.deciding.try_proof.Goals as goal

pub returns-in-Err-clause-refused : goal.returns-in-Err-clause-refused
returns-in-Err-clause-refused c =
    let about = cases_of c.args.setting.now.about.now in
    let t = aim_states c.proved_aim.result.now in
    let s = aim_states c.args.claim.now.proved_aim in
    let e : t ≡ s = c.proved_aim.ensures ∙ sym c.args.claim.now.proved_stated in
    of_formula c.in-Err.fault (fault_of about t s c.args.setting.now.budget.now c.in-Err.fault e c.in-Err.ensures.refused) (λ last is. subst (λ u. IsCountedFor about c.args.setting.now.budget.now last u c.in-Err.fault) e (c.in-Err.ensures.counted last is))

pub returns-in-Err-start_covered-clause-refused : goal.returns-in-Err-start_covered-clause-refused
returns-in-Err-start_covered-clause-refused c =
    let about = cases_of c.args.setting.now.about.now in
    let t = aim_states c.proved_aim.result.now in
    let s = aim_states c.args.claim.now.proved_aim in
    let e : t ≡ s = c.proved_aim.ensures ∙ sym c.args.claim.now.proved_stated in
    let o = c.in-Ok.ensures in
    of_start c.in-Ok.found c.in-Err-start_covered.fault (found_of about t s c.in-Ok.found e o.region o.part o.built o.size o.gap o.tells o.full o.known o.bounded) c.in-Err-start_covered.ensures.refusals

pub returns-in-Ok-Hole-clause-tried : goal.returns-in-Ok-Hole-clause-tried
returns-in-Ok-Hole-clause-tried c =
    let about = cases_of c.args.setting.now.about.now in
    let t = aim_states c.proved_aim.result.now in
    let s = aim_states c.args.claim.now.proved_aim in
    let e : t ≡ s = c.proved_aim.ensures ∙ sym c.args.claim.now.proved_stated in
    let o = c.in-Ok.ensures in
    record {
      found = c.in-Ok.found;
      is = found_of about t s c.in-Ok.found e o.region o.part o.built o.size o.gap o.tells o.full o.known o.bounded;
      same = refl;
      values = c.in-Ok-Hole.field-0-0.items;
      outside = subst (StartAnswer about c.in-Ok.found.part.region.pieces.items) c.in-Ok-Hole.field-0-is c.in-Ok-Hole.ensures.answer;
    }

pub proved_certificate-requires-clause-root : goal.proved_certificate-requires-clause-root
proved_certificate-requires-clause-root c =
    let about = cases_of c.args.setting.now.about.now in
    let claim = c.args.claim.now in
    let f = property_of claim.proved in
    let found = c.in-Ok.found in
    let part = c.in-Ok.ensures.part f (states_of about _ (aim_states c.proved_aim.result.now) f c.proved_aim.ensures c.requires.variables) in
    let limits = subst (λ g. IsFormula g.variables g.locations (property_of g)) c.proved.ensures c.tree-limits.ensures.limits in
    let a = subst (StartAnswer about found.part.region.pieces.items) c.in-Ok-Tree.field-0-is c.in-Ok-Tree.ensures.answer in
    root_of about f found.part.region found.part.node a.0 c.in-Ok-Tree.start part (few_operators _ _ f limits) a.1 a.2

pub returns-in-Err-proved_certificate-clause-refused : goal.returns-in-Err-proved_certificate-clause-refused
returns-in-Err-proved_certificate-clause-refused c = of_formula Memory (λ last h. tt) (λ most o plain last is f parts e. tt)

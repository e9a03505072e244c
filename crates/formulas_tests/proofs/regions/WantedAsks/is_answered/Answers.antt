use Rattle.tv_formula.specs.Formulas.{property_of}
use Rattle.tv_cases.specs.Systems.{cases_of}
use Rattle.tv_cert.specs.Claims.{claim_variables}
use Rattle.tv_cert.specs.AimViews.{aim_states}
use Rattle.tv_pre.proofs.DecidingLemmas.{states_of}
use Rattle.formulas_tests.proofs.regions.WantedAsks.is_answered.Goals as goal

pub found-requires-clause-stated : goal.found-requires-clause-stated
found-requires-clause-stated c =
    let claim = c.args.claim.now in
    let f = property_of claim.proved in
    (f, states_of (cases_of c.args.setting.now.about.now) (claim_variables claim) (aim_states c.proved_aim.result.now) f c.proved_aim.ensures c.requires.variables)

use Rattle.std.proofs.Common.{◌∙◌}
use Rattle.tv_cases.specs.Systems.{cases_of}
use Rattle.tv_region.specs.Regions.{IsRegion}
use Rattle.formulas_tests.proofs.NodeLemmas.{all_of_one, in_some}
use Rattle.formulas_tests.proofs.nodes.one_of_one.Goals as goal

pub one_of-requires-clause-regions : goal.one_of-requires-clause-regions
one_of-requires-clause-regions c =
    let about = cases_of c.args.setting.now.about.now in
    all_of_one (IsRegion about.variables about.locations) c.args.part.region c.deref.result.now (c.deref.ensures.value ∙ c.in_ok-regions.ensures) c.requires.over

pub one_of-requires-clause-inside : goal.one_of-requires-clause-inside
one_of-requires-clause-inside c =
    let about = cases_of c.args.setting.now.about.now in
    in_some about c.in_ok-region.region.pieces.items c.args.part.region c.deref.result.now (c.deref.ensures.value ∙ c.in_ok-regions.ensures) c.in_ok-region.ensures.inside

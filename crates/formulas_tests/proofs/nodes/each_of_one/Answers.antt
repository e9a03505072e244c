use Rattle.std.proofs.Common.{◌∙◌}
use Rattle.tv_cases.specs.Systems.{cases_of}
use Rattle.tv_region.specs.Regions.{IsRegion}
use Rattle.formulas_tests.proofs.NodeLemmas.{all_of_one, in_each}
use Rattle.formulas_tests.proofs.nodes.each_of_one.Goals as goal

pub each_of-requires-clause-regions : goal.each_of-requires-clause-regions
each_of-requires-clause-regions c =
    let about = cases_of c.args.setting.now.about.now in
    all_of_one (IsRegion about.variables about.locations) c.args.part.region c.deref.result.now (c.deref.ensures.value ∙ c.in_ok-regions.ensures) c.requires.over

pub each_of-requires-clause-inside : goal.each_of-requires-clause-inside
each_of-requires-clause-inside c =
    let about = cases_of c.args.setting.now.about.now in
    in_each about c.in_ok-region.region.pieces.items c.args.part.region c.deref.result.now (c.deref.ensures.value ∙ c.in_ok-regions.ensures) c.in_ok-region.ensures.inside

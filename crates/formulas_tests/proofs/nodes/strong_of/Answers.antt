use Rattle.tv_cases.specs.Systems.{cases_of}
use Rattle.formulas_tests.proofs.NodeLemmas.{no_layers}
use Rattle.formulas_tests.proofs.nodes.strong_of.Goals as goal

pub until-requires-clause-layers : goal.until-requires-clause-layers
until-requires-clause-layers c = no_layers (cases_of c.args.setting.now.about.now) _ c.in_ok-end.end c.new.result.items c.new.ensures.items

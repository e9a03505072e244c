use Rattle.tv_cases.specs.Systems.{cases_of}
use Rattle.formulas_tests.proofs.NodeLemmas.{stops_first}
use Rattle.formulas_tests.proofs.nodes.ends_at_once.Goals as goal

pub ends_by_rounds-requires-clause-layers : goal.ends_by_rounds-requires-clause-layers
ends_by_rounds-requires-clause-layers c =
    stops_first (cases_of c.args.setting.now.about.now) c.nowhere-none.result c.in_ok-stops.stops c.in_ok-layers.layers.items c.nowhere-none.ensures c.in_ok-stops.ensures.before c.in_ok-layers.ensures

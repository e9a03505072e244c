use Rattle.tv_cases.specs.Systems.{cases_of}
use Rattle.formulas_tests.proofs.NodeLemmas.{none_come}
use Rattle.formulas_tests.proofs.nodes.ranked_of.Goals as goal

pub ranked_until-requires-clause-coming : goal.ranked_until-requires-clause-coming
ranked_until-requires-clause-coming c = none_come (cases_of c.args.setting.now.about.now) _ c.in_ok-end.end c.nowhere-none.result c.in_ok-end.ensures.end c.nowhere-none.ensures

use Rattle.tv_cases.specs.Systems.{cases_of}
use Rattle.formulas_tests.proofs.NodeLemmas.{leads_before}
use Rattle.formulas_tests.proofs.nodes.next_all.Goals as goal

pub next-requires-clause-leads : goal.next-requires-clause-leads
next-requires-clause-leads c = leads_before (cases_of c.args.setting.now.about.now) c.args.part.region c.in_ok-region.region c.in_ok-region.ensures.before

use Rattle.tv_cases.specs.Systems.{cases_of}
use Rattle.tv_pre.proofs.AlongLemmas.{no_onward}
use Rattle.formulas_tests.proofs.nodes.release_of.Goals as goal

pub weak-requires-clause-staying : goal.weak-requires-clause-staying
weak-requires-clause-staying c = no_onward (cases_of c.args.setting.now.about.now) _ c.in_ok-end.end c.nowhere-none.result (λ s p m. c.in_ok-end.ensures.end.right s p m) c.nowhere-none.ensures

use Rattle.tv_cases.specs.Systems.{cases_of}
use Rattle.tv_invariant.specs.Reached.{IsReached}
use Rattle.tv_invariant.proofs.RunLemmas.{pushed_all}
use Rattle.tv_invariant.proofs.walks.walk.Goals as goal

pub returns-in-None : goal.returns-in-None
returns-in-None c = pushed_all (IsReached (cases_of c.args.about.now)) c.steps.states.items c.steps.state c.steps.invariant.states c.steps.invariant.state c.push_item.result c.push_item.new.items c.push_item.ensures

pub returns : goal.returns
returns c = pushed_all (IsReached (cases_of c.args.about.now)) c.steps.states.items c.steps.state c.steps.invariant.states c.steps.invariant.state c.push_item-2.result c.push_item-2.new.items c.push_item-2.ensures

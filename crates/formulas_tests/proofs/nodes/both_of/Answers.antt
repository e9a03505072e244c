use Rattle.std.proofs.Common.{arith}
use Rattle.tv_cases.specs.Systems.{cases_of}
use Rattle.tv_rounds.proofs.SetLemmas.{as_first}
use Rattle.tv_pre.proofs.SetLemmas.{both_ends}
use Rattle.formulas_tests.proofs.nodes.both_of.Goals as goal

pub both-requires : goal.both-requires
both-requires c =
    let about = cases_of c.args.setting.now.about.now in
    let first = c.args.sides.now.first.now in
    let second = c.args.sides.now.second.now in
    let over = c.requires.sides in
    let e = over.first.variables in
    let bounded = c.variables-variables.ensures.limits.few_variables in record {
      bounded = omega (arith, e, bounded);
      first = as_first about first first over.first over.first;
      second = as_first about first second over.first over.second;
    }

pub returns-in-Ok : goal.returns-in-Ok
returns-in-Ok c = record { end = both_ends (cases_of c.args.setting.now.about.now) c.args.sides.now c.in-Ok.end c.requires.sides c.requires.shape c.in-Ok.ensures.both }

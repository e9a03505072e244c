use Rattle.std.proofs.Common.{arith}
use Rattle.tv_cases.specs.Systems.{cases_of}
use Rattle.tv_rounds.proofs.SetLemmas.{as_first}
use Rattle.formulas_tests.proofs.NodeLemmas.{same_over, same_inside}
use Rattle.formulas_tests.proofs.nodes.again.Goals as goal

pub both-requires : goal.both-requires
both-requires c =
    let about = cases_of c.args.about.now in
    let region = c.args.region.now in
    let over = c.requires.over in
    let e = over.variables in
    let bounded = c.variables-variables.ensures.limits.few_variables in record {
      bounded = omega (arith, e, bounded);
      first = as_first about region region over over;
      second = as_first about region region over over;
    }

pub returns-in-Ok-clause-over : goal.returns-in-Ok-clause-over
returns-in-Ok-clause-over c = same_over (cases_of c.args.about.now) c.args.region.now c.in-Ok.same c.requires.over c.in-Ok.ensures.both

pub returns-in-Ok-clause-inside : goal.returns-in-Ok-clause-inside
returns-in-Ok-clause-inside c = same_inside (cases_of c.args.about.now) c.args.region.now c.in-Ok.same c.requires.over c.in-Ok.ensures.both

use Rattle.std.proofs.Common.{arith}
use Rattle.tv_cases.specs.Systems.{cases_of}
use Rattle.tv_points.proofs.StepLemmas.{as_many, first_step, first_fault, no_choices, choices_more}
use Rattle.tv_points.proofs.steps.+push_choices.Goals as goal

pub choice_at-requires-clause-leads : goal.choice_at-requires-clause-leads
choice_at-requires-clause-leads t c = first_step (cases_of c.args.run.now.about.now) c.args.run.now.states.now c.args.place c.args.steps.now c.step-item.result c.in-len1-up.len_at_least c.step-item.is c.requires.steps.leads

pub returns-in-empty : goal.returns-in-empty
returns-in-empty t c = no_choices c.args.run.now c.args.place c.args.proofs.now.items (let m = as_many c.args.run.now c.requires.steps.made in let k = c.requires.many in let b = c.in-empty.len_below in omega (arith, m, k, b))

pub returns-in-Err : goal.returns-in-Err
returns-in-Err t c = first_fault (cases_of c.args.run.now.about.now) c.args.run.now.ends c.args.run.now.states.now c.args.place c.args.steps.now c.step-item.result c.in-Err.fault c.in-len1-up.len_at_least c.step-item.is c.in-Err.ensures

pub returns-in_ok-push_item-in-Ok : goal.returns-in_ok-push_item-in-Ok
returns-in_ok-push_item-in-Ok t c =
    choices_more c.args.run.now c.args.place c.args.steps.now c.step-item.result c.in-Ok.proof c.args.proofs.now.items c.push_item.new.items.items c.push_choices.new.proofs.items c.push_choices.result c.requires.steps.made
    (first_step (cases_of c.args.run.now.about.now) c.args.run.now.states.now c.args.place c.args.steps.now c.step-item.result c.in-len1-up.len_at_least c.step-item.is c.requires.steps.leads)
    c.in-len1-up.len_at_least c.step-item.is c.in-Ok.ensures c.in_ok-push_item-in-Ok.ensures c.push_choices.ensures

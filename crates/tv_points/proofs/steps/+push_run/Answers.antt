use Rattle.std.proofs.Common.{arith}
use Rattle.tv_cases.specs.Systems.{cases_of}
use Rattle.tv_points.proofs.StepLemmas.{first_step, first_fault, last_pushed, two_more}
use Rattle.tv_points.proofs.steps.+push_run.Goals as goal

pub choice_at-requires-clause-leads : goal.choice_at-requires-clause-leads
choice_at-requires-clause-leads t c = first_step (cases_of c.args.run.now.about.now) c.args.run.now.states.now c.args.place c.args.steps.now c.step-item.result c.in-len1-up.len_at_least c.step-item.is c.requires.steps.leads

pub returns-in_ok-push_item-in-empty-2 : goal.returns-in_ok-push_item-in-empty-2
returns-in_ok-push_item-in-empty-2 t c =
    last_pushed c.args.run.now c.args.place c.bare_proof.result c.bare_proof-in-empty.result c.args.proofs.now.items c.push_item.new.items.items c.push_item-in-empty.new.items.items c.requires.steps.made c.requires.ends
    (let k = c.requires.many in let b = c.in-empty.len_below in omega (arith, k, b)) c.bare_proof.ensures c.bare_proof-in-empty.ensures c.in_ok-push_item-in-empty.ensures c.in_ok-push_item-in-empty-2.ensures

pub returns-in-Err : goal.returns-in-Err
returns-in-Err t c = first_fault (cases_of c.args.run.now.about.now) c.args.run.now.ends c.args.run.now.states.now c.args.place c.args.steps.now c.step-item.result c.in-Err.fault c.in-len1-up.len_at_least c.step-item.is c.in-Err.ensures

pub returns-in_ok-push_item-in-Ok-2 : goal.returns-in_ok-push_item-in-Ok-2
returns-in_ok-push_item-in-Ok-2 t c =
    two_more c.args.run.now c.args.place c.args.steps.now c.step-item.result c.bare_proof-in-Ok.result c.in-Ok.proof c.args.proofs.now.items c.push_item-in-Ok.new.items.items c.push_item-in-Ok-2.new.items.items c.push_run.new.proofs.items c.push_run.result c.requires.steps.made
    (first_step (cases_of c.args.run.now.about.now) c.args.run.now.states.now c.args.place c.args.steps.now c.step-item.result c.in-len1-up.len_at_least c.step-item.is c.requires.steps.leads)
    c.requires.ends (let k = c.requires.many in let l = c.in-len1-up.len_at_least in omega (arith, k, l))
    c.in-len1-up.len_at_least c.step-item.is c.in-Ok.ensures c.bare_proof-in-Ok.ensures c.in_ok-push_item-in-Ok.ensures c.in_ok-push_item-in-Ok-2.ensures c.push_run.ensures

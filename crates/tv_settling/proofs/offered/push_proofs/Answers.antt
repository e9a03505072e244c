use Rattle.tv_settling.proofs.StepLemmas.{shown_at}
use Rattle.tv_settling.proofs.offered.push_proofs.Goals as goal

pub returns-in-Ok-push_steps-clause-shown : goal.returns-in-Ok-push_steps-clause-shown
returns-in-Ok-push_steps-clause-shown c =
    shown_at c.args.barrier.now c.args.location c.in-Ok.proof c.args.proofs.now.items _ c.push_steps.new.proofs.items c.in-Ok.ensures.shows c.in_ok-push_item-in-Ok.ensures c.in-Ok-push_steps.ensures.shown

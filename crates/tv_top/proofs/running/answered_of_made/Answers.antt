use Rattle.std.proofs.Common.{◌∙◌}
use Rattle.tv_top.proofs.Asking.{means_same}
use Rattle.tv_top.proofs.running.answered_of_made.Goals as goal

pub returns-in-Ok : goal.returns-in-Ok
returns-in-Ok g c = means_same _ _ _ _ c.decide.result (c.deref.ensures.value ∙ c.in-Ok.ensures.exact) c.decide.ensures

use Rattle.std.proofs.Common.{ap, refl}
use Rattle.tv_top.specs.Headline.{of_made}
use Rattle.tv_top.specs.Tasks.{made_loops}
use Rattle.tv_top.specs.Views.{wanted_view}
use Rattle.tv_top.proofs.running.answer_to_task.Goals as goal

pub returns-in-Counts-clause-answer : goal.returns-in-Counts-clause-answer
returns-in-Counts-clause-answer g c = λ words asks. of_made c.in-Counts.loops.count asks (ap (λ w. made_loops (wanted_view w)) c.in-Counts.is) refl c.answered_of_made.ensures

use Rattle.std.proofs.Common.{◌∙◌, map}
use Rattle.clap.specs.Simple.{app_of}
use Rattle.tv_top.proofs.Taken.{taken, untaken}
use Rattle.tv_top.proofs.task.Task.read.Goals as goal

pub returns-in-Ok : goal.returns-in-Ok
returns-in-Ok c = c.task_in.ensures ∙ taken (app_of c.in_ok-command.command) (map (λ word. word.now) c.args.words.now) c.in-Ok.matches c.in_ok-command.ensures c.in-Ok.ensures.kinds c.in-Ok.ensures.matches

pub returns : goal.returns
returns c = untaken (app_of c.in_ok-command.command) (map (λ word. word.now) c.args.words.now) c.in-Err.error c.in_ok-command.ensures c.in-Err.ensures.kinds (λ m. c.in_default.not-OutOfMemory (c.kind.ensures ∙ m))

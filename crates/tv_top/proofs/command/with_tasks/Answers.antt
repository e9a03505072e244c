use Rattle.std.proofs.Common.{◌∙◌, ap, codes}
use Rattle.std.proofs.lemmas.Result.{IfOk-weaker}
use Rattle.clap.specs.Simple.{App, with_rule}
use Rattle.tv_top.specs.CommandLine.{option}
use Rattle.tv_top.proofs.command.with_tasks.Goals as goal

pub returns : goal.returns
returns c = IfOk-weaker c.with_option-4.result _ _ (λ m h. h ∙ ap (λ (a : App). with_rule a (option (codes "generate")))
    (c.in_ok-command-4.ensures ∙ ap (λ (a : App). with_rule a (option (codes "finitely")))
    (c.in_ok-command-3.ensures ∙ ap (λ (a : App). with_rule a (option (codes "ctl")))
    (c.in_ok-command-2.ensures ∙ ap (λ (a : App). with_rule a (option (codes "safety"))) c.in_ok-command.ensures)))) c.with_option-4.ensures

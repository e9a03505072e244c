use Rattle.std.proofs.Common.{◌∙◌, ap, codes}
use Rattle.std.proofs.lemmas.Result.{IfOk-weaker}
use Rattle.clap.specs.Simple.{App, with_rule}
use Rattle.tv_top.specs.CommandLine.{flag, option}
use Rattle.tv_top.proofs.command.with_certificates.Goals as goal

pub returns : goal.returns
returns c = IfOk-weaker c.with_option.result _ _ (λ m h. h ∙ ap (λ (a : App). with_rule a (option (codes "trace")))
    (c.in_ok-command-2.ensures ∙ ap (λ (a : App). with_rule a (flag (codes "certificate"))) c.in_ok-command.ensures)) c.with_option.ensures

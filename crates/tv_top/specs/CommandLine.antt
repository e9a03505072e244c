-- The command line, as a command of `clap`: a flag for each task that takes no word, an option for each that takes one, and no help.
use Rattle.std.specs.Prelude.{Some, true, codes}
use Rattle.clap.specs.Walk.{Rule, Text}
use Rattle.clap.specs.Simple.{App, new_app, new_rule, on_top, with_rule}
use Rattle.clap.specs.declared.builder.action.ArgAction.TheVariants.{Set, SetTrue}

-- `--name`, and a word after it or after `=`
abbrev pub option : Text → Rule
option name = record (new_rule name) { long = Some name; action = Some Set }

-- `--name` alone
abbrev pub flag : Text → Rule
flag name = record (new_rule name) { long = Some name; action = Some SetTrue }

-- a command whose words begin after the program's name
abbrev pub bare_command : App
bare_command = on_top (λ s. record s { no_binary_name = true; disable_help_flag = true }) (new_app (codes "t2verdict"))

-- with what names the property, and perhaps the program
abbrev pub with_tasks : App → App
with_tasks a =
    with_rule (with_rule (with_rule (with_rule (with_rule a (flag (codes "termination"))) (option (codes "safety"))) (option (codes "ctl")))
    (option (codes "finitely"))) (option (codes "generate"))

-- with what is done with certificates, and with runs
abbrev pub with_certificates : App → App
with_certificates a = with_rule (with_rule (with_rule a (flag (codes "check"))) (flag (codes "certificate"))) (option (codes "trace"))

-- with the limits of a search
abbrev pub with_limits : App → App
with_limits a = with_rule (with_rule (with_rule a (option (codes "pivots"))) (option (codes "splits"))) (option (codes "disjuncts"))

abbrev pub command : App
command = with_limits (with_certificates (with_tasks bare_command))

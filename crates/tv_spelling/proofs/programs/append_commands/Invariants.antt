use Rattle.std.proofs.Common.{◌≡◌, ◌++◌, drop, map}
use Rattle.tv_program.specs.Views.{instruction}
use Rattle.tv_spelling.specs.Programs.{commands_text}
use Rattle.tv_spelling.proofs.programs.append_commands.Given as goal

abbrev pub invariant-loop-command : goal.invariant-loop-command
invariant-loop-command l = l.out.items ++ commands_text l.names (map instruction (drop l.command-index l.commands)) ≡ l.fn.out.items ++ commands_text l.names (map instruction l.commands)

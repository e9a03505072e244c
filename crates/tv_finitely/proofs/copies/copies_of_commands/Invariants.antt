use Rattle.std.proofs.Common.{◌≡◌, ◌++◌, drop, map}
use Rattle.tv_program.specs.Views.{instruction}
use Rattle.tv_finitely.proofs.copies.copies_of_commands.Given as goal

abbrev pub invariant-loop-command : goal.invariant-loop-command
invariant-loop-command l = map instruction l.copies.items ++ map instruction (drop l.command-index l.commands) ≡ map instruction l.commands

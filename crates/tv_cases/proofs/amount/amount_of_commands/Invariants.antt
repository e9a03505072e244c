use Rattle.std.proofs.Common.{◌≡◌, map, drop}
use Rattle.tv_program.specs.Views.{instruction}
use Rattle.tv_cases.specs.Amounts.{amount, IsCapped, amount_after}
use Rattle.tv_cases.proofs.amount.amount_of_commands.Given as goal

abbrev pub invariant-loop-command : goal.invariant-loop-command
invariant-loop-command l = record {
  same : amount_after (amount 1 0) (map instruction l.commands) ≡ amount_after l.total (map instruction (drop l.command-index l.commands));
  small : IsCapped l.total;
}

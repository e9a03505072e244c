use Rattle.std.proofs.Common.{◌≡◌}
use Rattle.tv_top.specs.Generated.{generated_text}
use Rattle.tv_top.proofs.making.generated.Given as goal

abbrev pub invariant-loops : goal.invariant-loops
invariant-loops l = l.text.items ≡ generated_text l.number

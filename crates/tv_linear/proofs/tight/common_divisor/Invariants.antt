use Rattle.std.proofs.Common.{◌≡◌, ◌<◌, ◌^◌, drop}
use Rattle.tv_linear.specs.Tight.{divisor_from, divisor}
use Rattle.tv_linear.proofs.tight.common_divisor.Given as goal

abbrev pub invariant-loop-number : goal.invariant-loop-number
invariant-loop-number l = record {
  exact : divisor l.numbers ≡ divisor_from l.divisor (drop l.number-index l.numbers);
  narrow : l.divisor < 2 ^ 62;
}

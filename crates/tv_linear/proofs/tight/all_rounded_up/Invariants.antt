use Rattle.std.proofs.Common.{◌≡◌, All, map, take}
use Rattle.tv_linear.specs.Linear.{IsWithin}
use Rattle.tv_linear.specs.Tight.{rounded_up}
use Rattle.tv_linear.proofs.tight.all_rounded_up.Given as goal

abbrev pub invariant-loop-number : goal.invariant-loop-number
invariant-loop-number l = record {
  exact : l.rounded.items ≡ map (rounded_up l.divisor) (take l.number-index l.numbers);
  narrow : All (IsWithin 62) l.rounded.items;
}

use Rattle.std.proofs.Common.{◌≡◌, ◌<◌, ◌^◌, take}
use Rattle.tv_lines.specs.Numbers.{value}
use Rattle.tv_lines.proofs.number.value.Given as goal

abbrev pub invariant-loop-digit : goal.invariant-loop-digit
invariant-loop-digit l = record { total : l.total ≡ value (take l.digit-index l.digits); below : l.total < 2 ^ 62 }

use Rattle.std.proofs.Common.{◌≡◌, ◌<◌, ◌^◌, take}
use Rattle.tv_language.specs.Numbers.{value_of_digits}
use Rattle.tv_language.proofs.number.is_wide.Given as goal

abbrev pub invariant-loop-digit : goal.invariant-loop-digit
invariant-loop-digit l = record { total : l.total ≡ value_of_digits (take l.digit-index l.digits); below : l.total < 2 ^ 62 }

use Rattle.std.proofs.Common.{◌≡◌, take}
use Rattle.tv_walks.proofs.rows.solving.halved.Given as goal

abbrev pub invariant-loop-number : goal.invariant-loop-number
invariant-loop-number l = l.half.items ≡ take l.number-index l.numbers

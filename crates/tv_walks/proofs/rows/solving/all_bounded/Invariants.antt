use Rattle.std.proofs.Common.{◌≡◌, take}
use Rattle.tv_walks.proofs.rows.solving.all_bounded.Given as goal

abbrev pub invariant-loop-number : goal.invariant-loop-number
invariant-loop-number l = l.values.items ≡ take l.number-index l.numbers

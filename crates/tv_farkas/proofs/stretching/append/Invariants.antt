use Rattle.std.proofs.Common.{◌≡◌, ◌++◌, take}
use Rattle.tv_farkas.proofs.stretching.append.Given as goal

abbrev pub invariant-more : goal.invariant-more
invariant-more l = l.numbers.items ≡ l.fn.numbers.items ++ take l.number-index l.more

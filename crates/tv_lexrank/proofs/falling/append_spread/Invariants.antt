use Rattle.std.proofs.Common.{◌≡◌, ◌++◌, map, take}
use Rattle.tv_rank.specs.Given.{lists}
use Rattle.tv_lexrank.specs.Falling.{spread}
use Rattle.tv_lexrank.proofs.falling.append_spread.Given as goal

abbrev pub invariant-lines : goal.invariant-lines
invariant-lines l = lists l.lists.items ≡ lists l.fn.lists.items ++ map (spread l.above) (lists (take l.line-index l.lines))

use Rattle.std.proofs.Common.{◌≡◌, map, take}
use Rattle.tv_rank.specs.Given.{lists}
use Rattle.tv_lexrank.specs.Falling.{put_in}
use Rattle.tv_lexrank.proofs.more.put_in_each.Given as goal

abbrev pub invariant-lists : goal.invariant-lists
invariant-lists l = lists l.all.items ≡ map (put_in l.place l.many) (lists (take l.list-index l.lists))

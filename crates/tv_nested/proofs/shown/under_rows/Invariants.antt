use Rattle.std.proofs.Common.{◌≡◌, map, take}
use Rattle.tv_rank.specs.Given.{lists}
use Rattle.tv_nested.specs.Lines.{under_line}
use Rattle.tv_nested.proofs.shown.under_rows.Given as goal

abbrev pub invariant-lines : goal.invariant-lines
invariant-lines l = lists l.all.items ≡ map (under_line l.many 0) (lists (take l.line-index l.old))

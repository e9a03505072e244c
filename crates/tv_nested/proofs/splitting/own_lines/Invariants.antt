use Rattle.std.proofs.Common.{◌≡◌, ◌+◌}
use Rattle.tv_rank.specs.Given.{lists}
use Rattle.tv_nested.specs.Lines.{own_lines}
use Rattle.tv_nested.proofs.splitting.own_lines.Given as goal

abbrev pub invariant-rows : goal.invariant-rows
invariant-rows l = lists l.lines.items ≡ own_lines (l.before + l.above) l.before l.place

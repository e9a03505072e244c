use Rattle.std.proofs.Common.{◌≡◌, ◌++◌}
use Rattle.tv_choice.proofs.splitting.behind.Given as goal

abbrev pub invariant-path : goal.invariant-path
invariant-path l = l.initial.whole.items ++ l.initial.later-iterator.rest.items ≡ l.whole.items ++ l.later-iterator.rest.items

use Rattle.std.proofs.Common.{◌≡◌, ◌+◌, ◌++◌}
use Rattle.tv_linear.specs.Terms.{table}
use Rattle.tv_rank.specs.Given.{lists}
use Rattle.tv_nested.specs.Lines.{under_line}
use Rattle.tv_nested.specs.SetFalls.{family_line}
use Rattle.tv_nested.proofs.shown.push_steps.Given as goal

abbrev pub invariant-terms : goal.invariant-terms
invariant-terms l = lists l.all.items ≡ lists l.fn.all.items ++ table l.index (λ i. under_line (l.piece + 1) i (family_line l.family l.place i))

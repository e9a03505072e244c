use Rattle.std.proofs.Common.{sym, ◌∙◌, ap, ◌≤◌, length}
use Rattle.std.specs.Prelude.{unsigned_abs}
use Rattle.std.proofs.lemmas.List.Elements.{All-same}
use Rattle.tv_linear.specs.Arithmetic.{zeros}
use Rattle.tv_linear.proofs.PlainLists.{zeros-are, length-zeros, zeros-small}
use Rattle.tv_linear.proofs.total.wide_zeros.Goals as goal

pub returns-clause-exact : goal.returns-clause-exact
returns-clause-exact c = c.in_ok-numbers.ensures.items_if_clones_equal (λ y e. e) ∙ sym (zeros-are c.args.columns)

pub returns-clause-counted : goal.returns-clause-counted
returns-clause-counted c = ap length (returns-clause-exact c) ∙ length-zeros c.args.columns

pub returns-clause-small : goal.returns-clause-small
returns-clause-small c = All-same (λ z. unsigned_abs z ≤ 0) _ (zeros c.args.columns) (returns-clause-exact c) (zeros-small c.args.columns)

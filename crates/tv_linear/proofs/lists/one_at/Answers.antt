use Rattle.std.proofs.Common.{sym, ◌∙◌, ap, set, pos, length}
use Rattle.std.proofs.lemmas.List.Elements.{All-same}
use Rattle.tv_linear.specs.Linear.{IsWithin}
use Rattle.tv_linear.specs.Arithmetic.{unit}
use Rattle.tv_linear.proofs.PlainLists.{unit-is, length-unit, unit-narrow}
use Rattle.tv_linear.proofs.lists.one_at.Goals as goal

pub returns-clause-exact : goal.returns-clause-exact
returns-clause-exact c =
    ap (λ xs. set xs c.args.column (pos 1)) (c.in_ok-numbers.ensures.items_if_clones_equal (λ y e. e)) ∙ sym (unit-is c.args.columns c.args.column c.requires)

pub returns-clause-counted : goal.returns-clause-counted
returns-clause-counted c = ap length (returns-clause-exact c) ∙ length-unit c.args.columns c.args.column

pub returns-clause-narrow : goal.returns-clause-narrow
returns-clause-narrow c = All-same (IsWithin 62) _ (unit c.args.columns c.args.column) (returns-clause-exact c) (unit-narrow c.args.columns c.args.column)

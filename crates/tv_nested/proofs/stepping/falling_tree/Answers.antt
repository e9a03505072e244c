use Rattle.std.proofs.Common.{◌+◌, length, subst}
use Rattle.tv_cases.specs.Views.{case_view}
use Rattle.tv_nested.specs.Splitting.{IsSplitTree}
use Rattle.tv_nested.proofs.ChangedLemmas.{falls_step}
use Rattle.tv_nested.proofs.stepping.falling_tree.Goals as goal

pub returns-in-Ok-split_tree-clause-shows : goal.returns-in-Ok-split_tree-clause-shows
returns-in-Ok-split_tree-clause-shows c =
    let fall = c.args.fall.now in
    let tree = c.in-Ok-split_tree.tree in
    let rows = c.in-Ok.rows.items in
    let cut = subst (λ z. IsSplitTree z (c.args.before + length c.deref-guards.result.now) c.args.fall.now c.in-Ok-split_tree.tree) c.deref.ensures.value c.in-Ok-split_tree.ensures in
    let h = subst (λ z. IsSplitTree c.in-Ok.rows.items (c.args.before + length z) c.args.fall.now c.in-Ok-split_tree.tree) c.deref-guards.ensures.value cut in
    falls_step c.args.variables (case_view c.args.case.now) c.args.signs.now rows c.args.before fall tree c.requires.even c.requires.terms c.in-Ok.ensures.rows c.requires.few h

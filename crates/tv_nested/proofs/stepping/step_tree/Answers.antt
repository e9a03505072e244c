use Rattle.std.proofs.Common.{◌∙◌}
use Rattle.tv_cases.specs.Views.{case_view}
use Rattle.tv_nested.proofs.ChangedLemmas.{untaken_step}
use Rattle.tv_nested.proofs.stepping.step_tree.Goals as goal

pub returns-in_ok-refuted-in-Untaken-clause-shows : goal.returns-in_ok-refuted-in-Untaken-clause-shows
returns-in_ok-refuted-in-Untaken-clause-shows c =
    rw c.in-Untaken.is
    (untaken_step c.args.variables (case_view c.args.case.now) c.args.signs.now c.args.before c.in-Untaken.multipliers c.in_ok-refuted-in-Untaken.refuted (c.in_ok-refuted-in-Untaken.ensures.items ∙ c.deref.ensures.value))

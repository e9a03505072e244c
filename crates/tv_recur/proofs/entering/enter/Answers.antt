use Rattle.std.proofs.Common.{◌∙◌, sym}
use Rattle.tv_cases.specs.Systems.{cases_of}
use Rattle.tv_cases.specs.Views.{case_view}
use Rattle.tv_recur.proofs.KeepLemmas.{not_entered}
use Rattle.tv_recur.proofs.ReadLemmas.{undrawn_wide}
use Rattle.tv_recur.proofs.RefusalLemmas.{undrawn_from}
use Rattle.tv_recur.proofs.entering.enter.Goals as goal
use Rattle.tv_cases.proofs.LeavingLemmas.{case_of_system}

pub returns-in-Ok-None-clause-found : goal.returns-in-Ok-None-clause-found
returns-in-Ok-None-clause-found c =
    let about = cases_of c.args.search.now.about.now in
    let kept = case_view c.args.kept.now in
    let good = case_of_system about kept c.args.search.now.about.now.are_cases c.requires.among in
    not_entered about kept (undrawn_wide about.variables kept c.requires.kept.no_draws good.guards)
    (λ e. c.if-kept-start.false (e ∙ sym c.start.ensures.same))
    (rw c.in-Ok-None.field-0-is at c.in-Ok-None.ensures.found)

pub first_entry-requires-clause-from : goal.first_entry-requires-clause-from
first_entry-requires-clause-from c =
    undrawn_from (cases_of c.args.search.now.about.now) c.args.search.now.budget.now (case_view c.args.kept.now) 1 c.requires.among c.requires.kept.no_draws

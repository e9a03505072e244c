use Rattle.std.proofs.Common.{sym, subst}
use Rattle.tv_program.specs.Programs.{system_of}
use Rattle.tv_formula.specs.Formulas.{property_of}
use Rattle.tv_invariant.specs.Asking.{Gave}
use Rattle.tv_finitely.specs.Refusals.{RefusesFinitely}
use Rattle.tv_finitely.specs.Splits.{split_of}
use Rattle.tv_top.specs.Finding.{Offers}
use Rattle.tv_top.specs.Views.{task_view}
use Rattle.tv_top.specs.Visiting.{FindsFinitely}
use Rattle.tv_top.proofs.Visits.{unvisited_so}
use Rattle.tv_top.proofs.visiting.settled.Goals as goal

pub returns : goal.returns
returns g c =
    let offers : Offers = λ about. Gave (λ p. (goal.Proposer-dyn g (p.vtable, p.value)).rest p.value about) c.args.proposers.now.items in
    let task = task_view c.args.task.now in
    let p = system_of c.args.program.now in
    let f = property_of c.args.condition.now in
    let split = split_of c.args.about.now in
    let refused = subst (λ b. RefusesFinitely split (offers split.system) b c.in-Err.fault) c.budget_of-budget.ensures.exact c.in-Err.ensures.refusals in
    subst (λ answer. FindsFinitely offers task p f answer) (sym c.unvisited.ensures) (unvisited_so offers task p f split c.requires c.in-Err.fault refused)

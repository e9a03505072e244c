use Rattle.std.proofs.Common.{◌≡◌, ◌∙◌, sym, subst}
use Rattle.tv_formula.specs.Normal.{normal}
use Rattle.tv_formula.specs.Properties.{term}
use Rattle.tv_top.specs.Searching.{IsEndAnswer}
use Rattle.tv_program.specs.Programs.{system_of}
use Rattle.tv_cases.specs.Systems.{cases_of}
use Rattle.tv_invariant.specs.Asking.{Gave}
use Rattle.tv_settling.specs.Ends.{IsFirstFault}
use Rattle.tv_top.specs.Finding.{Offers, Finds, alone}
use Rattle.tv_top.specs.Views.{task_view}
use Rattle.tv_top.proofs.Found.{settles_found, ended_so, further_so}
use Rattle.tv_top.proofs.ending.ends.Goals as goal

pub returns-in-Ok-Some : goal.returns-in-Ok-Some
returns-in-Ok-Some g c = λ f is.
    let search = c.args.search.now in
    let offers : Offers = λ about. Gave (λ p. (goal.Proposer-dyn g (p.vtable, p.value)).rest p.value about) c.args.proposers.now.items in
    settles_found offers (task_view search.task.now) (system_of search.program.now) f (cases_of search.about.now) c.told.result (c.told.ensures f is)

pub returns-in-Err : goal.returns-in-Err
returns-in-Err g c = λ f is.
    let search = c.args.search.now in
    let task = task_view search.task.now in
    let p = system_of search.program.now in
    let about = cases_of search.about.now in
    let fault = c.in-Err.fault in
    let answer = c.ended-answer.result in
    let n : normal f ≡ term = sym is.proved ∙ c.requires.ends in
    let offers : Offers = λ about. Gave (λ p. (goal.Proposer-dyn g (p.vtable, p.value)).rest p.value about) c.args.proposers.now.items in
    let exact = c.budget_of-budget.ensures.exact in
    let refused = subst (λ b. IsFirstFault about b fault) exact c.in-Err.ensures.refusals in
    let ends = subst (λ b. IsEndAnswer task.wanted p f about b fault answer) exact (c.ended-answer.ensures f is) in
    let before : Finds offers task p f about answer = ended_so offers task p f about n fault (alone refused) answer ends in
    further_so offers task p f about answer c.or_looked.result before (c.or_looked.ensures f is)

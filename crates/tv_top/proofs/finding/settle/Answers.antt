use Rattle.tv_program.specs.Programs.{system_of}
use Rattle.tv_cases.specs.Systems.{cases_of}
use Rattle.tv_invariant.specs.Asking.{Gave}
use Rattle.tv_top.specs.Finding.{Offers}
use Rattle.tv_top.specs.Views.{task_view}
use Rattle.tv_top.proofs.Found.{further_so}
use Rattle.tv_top.proofs.finding.settle.Goals as goal

pub returns : goal.returns
returns g c = λ f is parts.
    let search = c.args.search.now in
    let about = cases_of search.about.now in
    let task = task_view search.task.now in
    let p = system_of search.program.now in
    let offers : Offers = λ about. Gave (λ p. (goal.Proposer-dyn g (p.vtable, p.value)).rest p.value about) c.args.proposers.now.items in
    let first = further_so offers task p f about c.settle_once-answer.result c.or_further-further.result (c.settle_once-answer.ensures f is parts) (c.or_further-further.ensures f is) in
    further_so offers task p f about c.or_further-further.result c.or_over_paths.result first (c.or_over_paths.ensures f is)
